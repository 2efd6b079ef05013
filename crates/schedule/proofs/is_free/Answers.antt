use Rattle.std.proofs.Common.{take, rules, tests}
use Rattle.std.proofs.lemmas.Iterator.{cases_from_all, YieldsList-from_slice}
use Rattle.schedule.proofs.Rules.{Elsewhere, There, free_told}
use Rattle.schedule.proofs.is_free.Goals as goal

pub returns : goal.returns
returns c =
    let m = c.args.mode.now in
    let i = c.args.i in
    let j = c.args.down.0 in
    free_told m i j c.all.result
    (cases_from_all _ _ _ (Elsewhere m i j) (There m i j) c.all.ensures.ran (YieldsList-from_slice (take i m.row) cc) (λ x q k. search (rules, tests)) (λ x q k. search (rules, tests)))
