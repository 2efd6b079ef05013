use Rattle.plan_cases.proofs.Worked.{worked}
use Rattle.plan_cases.proofs.worked_plans.Goals as goal

pub returns : goal.returns
returns g c = worked g.E.Engine.may g.met.E.Engine.right
