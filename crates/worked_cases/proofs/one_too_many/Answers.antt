use Rattle.std.proofs.Common.{true, is_err, refl, ap, ◌∙◌}
use Rattle.std.proofs.lemmas.Bool.{both_ways}
use Rattle.lines.specs.Verdicts.{answered}
use Rattle.worked_cases.proofs.Worked.{worked}
use Rattle.worked_cases.proofs.Bookings.{first_taken, second_declined}
use Rattle.worked_cases.proofs.one_too_many.Goals as goal

pub returns-in_err-add : goal.returns-in_err-add
returns-in_err-add c =
    let o = c.in_ok-owed.ensures in
    absurd (both_ways true (ap is_err (c.in_err-add.ensures.answer ∙ ap answered (first_taken _ _ o.1 o.2))) refl)

pub returns : goal.returns
returns c =
    let o = c.in_ok-owed.ensures in
    record { full = c.add-2.ensures.answer ∙ ap answered (second_declined _ _ _ _ o.1 c.add.ensures.lines o.2 c.add.ensures.units); worked = worked }
