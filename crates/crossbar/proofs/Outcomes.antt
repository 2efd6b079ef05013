-- The outcomes of a row, as the carrier gives them. Assumes nothing.
use Rattle.std.proofs.Common.{◌≡◌, ℕ, zero, suc, ◌+◌, ◌<◌, ◌≤◌, Bool, true, false, cond, eqb, List, [], ◌∷◌, length, get_or, Some, None, Option, sym, refl, ap, ◌∙◌, arith}
use Rattle.std.proofs.lemmas.List.{ext_get_or}
use Rattle.schedule.specs.declared.Join.{Join}
use Rattle.schedule.specs.declared.Mode.{Mode}
use Rattle.switch.specs.declared.Outcome.{Outcome}
use Rattle.switch.specs.Meaning.{is_open, row_of}
use Rattle.switch.specs.Calls.{CarriesAt, carried_to}
use Rattle.crossbar.specs.Carries.{outcome_by, outcomes_from, outcomes_by}
use Rattle.crossbar.specs.Kept.{under_way, units_of, down_of, down_out, units_held, down_held}

module _ (f : ℕ → ℕ → ℕ → ℕ) where
  pub outcomes_length : (i : ℕ) (row : List (Option Join)) → length (outcomes_from f i row) ≡ length row
  outcomes_length i [] = refl
  outcomes_length i (x ∷ row) = ap suc (outcomes_length (suc i) row)

  from_at : (i k : ℕ) (row : List (Option Join)) → get_or (outcomes_from f i row) k None ≡ outcome_by f (i + k) (get_or row k None)
  from_at i k [] = refl
  from_at i zero (x ∷ row) = let e : i ≡ i + 0 = omega arith in ap (λ n. outcome_by f n x) e
  from_at i (suc k) (x ∷ row) = let e : suc i + k ≡ i + suc k = omega arith in from_at (suc i) k row ∙ ap (λ n. outcome_by f n (get_or row k None)) e

  -- the outcome of each uplink
  pub outcomes_at : (k : ℕ) (row : List (Option Join)) → get_or (outcomes_by f row) k None ≡ outcome_by f k (get_or row k None)
  outcomes_at k row = let e : 0 + k ≡ k = omega arith in from_at 0 k row ∙ ap (λ n. outcome_by f n (get_or row k None)) e

  -- outcomes that are right at each uplink are these
  pub outcomes_all : (os : List (Option Outcome)) (row : List (Option Join)) → length os ≡ length row → ((k : ℕ) → k < length os → get_or os k None ≡ outcome_by f k (get_or row k None)) → os ≡ outcomes_by f row
  outcomes_all os row long each = ext_get_or None os (outcomes_by f row) (long ∙ sym (outcomes_length 0 row)) (λ k l. each k l ∙ sym (outcomes_at k row))

-- an outcome is of its grant
carries_down : (j : Option Join) (o : Option Outcome) → CarriesAt j o → down_out o ≡ down_of j
carries_down None None is = refl
carries_down None (Some o) is = absurd is
carries_down (Some x) None is = absurd is
carries_down (Some x) (Some o) is = ap (λ (y : Join). y.down.0) is.0

at_most : (b : Bool) (k u : ℕ) → k ≤ u → cond b k 0 ≤ u
at_most true k u l = l
at_most false k u l = omega arith

carries_units : (i : ℕ) (j : Option Join) (o : Option Outcome) → CarriesAt j o → carried_to i o ≤ units_of j
carries_units i None None is = omega arith
carries_units i None (Some o) is = absurd is
carries_units i (Some x) None is = absurd is
carries_units i (Some x) (Some o) is = at_most (eqb o.join.down.0 i) o.carried x.units is.1

-- of the outcomes of an open mode: each goes where its grant goes, and carries no more than its units
pub down_in : (m : Option Mode) (i : ℕ) (o : Option Outcome) → is_open m ≡ true → CarriesAt (get_or (row_of m) i None) o → down_out o ≡ down_held m i
down_in None i o is carry = let z : ◌≡◌ {A = ℕ} 0 1 = cc in absurd (omega arith)
down_in (Some x) i o is carry = carries_down (get_or x.row i None) o carry

pub units_in : (m : Option Mode) (i j : ℕ) (o : Option Outcome) → is_open m ≡ true → CarriesAt (get_or (row_of m) i None) o → carried_to j o ≤ units_held m i
units_in None i j o is carry = let z : ◌≡◌ {A = ℕ} 0 1 = cc in absurd (omega arith)
units_in (Some x) i j o is carry = carries_units j (get_or x.row i None) o carry

pub under_way_in : (m : Option Mode) → is_open m ≡ true → under_way m ≡ 65535
under_way_in None is = let z : ◌≡◌ {A = ℕ} 0 1 = cc in absurd (omega arith)
under_way_in (Some x) is = refl
