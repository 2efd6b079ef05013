-- The outcomes of a run are what the switch tells of each uplink afterwards. Assumes nothing.
use Rattle.std.proofs.Common.{◌≡◌, ℕ, ◌<◌, true, leb, List, length, get_or, Some, None, Option, sym, refl, ap, ◌∙◌, inl, inr, arith}
use Rattle.std.proofs.lemmas.List.{ext_get_or}
use Rattle.std.proofs.lemmas.Bool.{cases_lt, cond-true, cond-false, le-leb, lt-leb}
use Rattle.schedule.specs.declared.Join.{Join}
use Rattle.schedule.specs.declared.Mode.{Mode}
use Rattle.switch.specs.declared.Outcome.{Outcome}
use Rattle.switch.specs.Meaning.{Meaning, is_open, row_of}
use Rattle.switch.specs.Calls.{CarriesAt, runs, Ran, RunOr, RunTo}
use Rattle.steps.specs.WholeMode.{Ready, seen, RanWith}

open_ran : (o : Option Mode) (m m' : Meaning) → is_open o ≡ true → RunOr o m m' → Ran m m'
open_ran None m m' is ran = let z : ◌≡◌ {A = ℕ} 0 1 = cc in absurd (omega arith)
open_ran (Some x) m m' is ran = ran

no_grant : (j : Option Join) (o : Option Outcome) → j ≡ None → CarriesAt j o → o ≡ None
no_grant None None is carry = refl
no_grant None (Some o) is carry = absurd carry
no_grant (Some x) o is carry = let z : ◌≡◌ {A = ℕ} 0 1 = cc in absurd (omega arith)

pub told_all : (m m' : Meaning) (r : List (Option Outcome)) → Ready m → RunTo m m' → length r ≡ 16 → ((i : ℕ) → i < 16 → get_or r i None ≡ seen m' i) → RanWith r m m'
told_all m m' r ready ran long each =
    let was = open_ran m.mode m m' ready.stands ran in
    let os = was.outcomes in
    let here : (i : ℕ) → i < 16 → seen (runs os m) i ≡ get_or os i None = λ i l. elim (cases_lt i m.lines) [
      | inl few ↦ cond-false (leb m.lines i) None (get_or os i None) (lt-leb m.lines i few)
      | inr past ↦ cond-true (leb m.lines i) None (get_or os i None) (le-leb m.lines i past) ∙ sym (no_grant (get_or (row_of m.mode) i None) (get_or os i None) (ready.inside i past) (was.carry i l))
    ] in
    let same : r ≡ os = ext_get_or None r os (long ∙ sym was.sixteen) (λ i l. each i (omega arith) ∙ ap (λ o. seen o i) was.after ∙ here i (omega arith)) in
    rw same (record { sixteen = was.sixteen; carry = was.carry; after = was.after })
