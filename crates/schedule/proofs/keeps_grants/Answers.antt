use Rattle.std.proofs.Common.{rules, tests}
use Rattle.std.proofs.lemmas.Iterator.{cases_from_all, YieldsList-from_slice}
use Rattle.std.proofs.lemmas.Iterator.Consumers.{YieldsList-from_enumerate}
use Rattle.schedule.proofs.Rules.{Keeps, Breaks, grants_told, sound_kept, kept_sound}
use Rattle.schedule.proofs.keeps_grants.Goals as goal

pub returns : goal.returns
returns c =
    let n = c.args.lines in
    let m = c.args.mode.now in
    let told =
    grants_told n m c.all.result
    (cases_from_all _ _ _ (Keeps n m) (Breaks n m) c.all.ensures.ran (YieldsList-from_enumerate (YieldsList-from_slice m.row cc) cc) (λ x q k. search (rules, tests)) (λ x q k. search (rules, tests))) in
    record { kept = λ e. kept_sound n m (told.0 e); sound = λ s. told.1 (sound_kept n m s) }
