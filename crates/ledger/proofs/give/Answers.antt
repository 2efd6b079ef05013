use Rattle.std.proofs.Common.{refl}
use Rattle.ledger.proofs.Giving.{told_as, acted, batched, wrote}
use Rattle.ledger.proofs.give.Goals as goal

pub returns-in-Post : goal.returns-in-Post
returns-in-Post g c = acted c.args.out.now c.in-Post.is (told_as _ c.post.result c.into.ensures) c.post.ensures

pub returns-in-Withdraw : goal.returns-in-Withdraw
returns-in-Withdraw g c = acted c.args.out.now c.in-Withdraw.is (told_as _ c.withdraw.result c.into-in-Withdraw.ensures) c.withdraw.ensures

pub returns-in-Plan : goal.returns-in-Plan
returns-in-Plan g c = acted c.args.out.now c.in-Plan.is (told_as _ c.plan.result c.into-in-Plan.ensures) c.plan.ensures

pub returns-in-Step : goal.returns-in-Step
returns-in-Step g c = acted c.args.out.now c.in-Step.is (told_as _ c.step.result c.into-in-Step.ensures) c.step.ensures

pub returns-in-Run : goal.returns-in-Run
returns-in-Run g c = acted c.args.out.now c.in-Run.is (told_as _ c.run.result c.into-in-Run.ensures) c.run.ensures

pub returns-in-Drop : goal.returns-in-Drop
returns-in-Drop g c = acted c.args.out.now c.in-Drop.is (told_as _ c.drop_plan.result c.into-in-Drop.ensures) c.drop_plan.ensures

pub returns-in-Owed : goal.returns-in-Owed
returns-in-Owed g c = acted c.args.out.now c.in-Owed.is (told_as _ c.owed.result c.into-in-Owed.ensures) c.owed.ensures

pub returns-in-Busiest : goal.returns-in-Busiest
returns-in-Busiest g c = acted c.args.out.now c.in-Busiest.is c.into-in-Busiest.ensures c.busiest.ensures

pub returns-in-ModesLeft : goal.returns-in-ModesLeft
returns-in-ModesLeft g c = acted c.args.out.now c.in-ModesLeft.is c.into-in-ModesLeft.ensures c.modes_left.ensures

pub returns-in-LengthLeft : goal.returns-in-LengthLeft
returns-in-LengthLeft g c = acted c.args.out.now c.in-LengthLeft.is c.into-in-LengthLeft.ensures c.length_left.ensures

pub returns-in-Batch : goal.returns-in-Batch
returns-in-Batch g c = batched _ c.in-Batch.bytes c.args.out.now c.in-Batch.is refl (told_as _ c.batch.result c.into-in-Batch.ensures) c.batch.ensures

pub returns-in-Write : goal.returns-in-Write
returns-in-Write g c = wrote c.in-Write.is (told_as _ c.write.result c.into-in-Write.ensures) c.write.ensures
