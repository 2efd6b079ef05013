-- The lowest uplink that fell short, and the units missing in all. Assumes nothing.
use Rattle.std.proofs.Common.{◌≡◌, ℕ, ◌<◌, Bool, true, false, cond, ltb, List, map, length, get_or, Some, None, Option, sum, position, sym, ap, ◌∙◌, inl, inr, arith}
use Rattle.std.proofs.lemmas.Bool.Decides.{nat_tests}
use Rattle.std.proofs.lemmas.Bool.{cases_lt}
use Rattle.std.proofs.lemmas.List.Sums.{position_or_len_is}
use Rattle.std.specs.List.{position_or_len}
use Rattle.std.proofs.Math.ListN.{get_or-map}
use Rattle.std.proofs.lemmas.List.{length-map}
use Rattle.lines.specs.Matrix.{uplink}
use Rattle.lines.specs.Sums.{sum_below}
use Rattle.lines.proofs.Sums.{sum_list, sum_same}
use Rattle.switch.specs.declared.Outcome.{Outcome}
use Rattle.switch.specs.Meaning.{most_lines}
use Rattle.runs.specs.declared.Shortfall.{Shortfall}
use Rattle.law.specs.Runs.{missing, missing_at, missed, lowest_short, shortfall_at, shortfall}
use Rattle.law.proofs.Shortfalls.{inside, above, below, none_short, one_short}
use Rattle.booking.specs.Bookings.{falls_short}

module _ (os : List (Option Outcome)) (size : length os ≡ most_lines) where
  first_is : position_or_len falls_short os ≡ lowest_short os
  first_is = position_or_len_is falls_short os (lowest_short os) None (omega (arith, inside os))
      (λ k l. let z : missing (get_or os k None) ≡ 0 = below os k l in grind (arith, nat_tests, z))
      (λ l. let z : 0 < missing (get_or os (lowest_short os) None) = above os (omega arith) in grind (arith, nat_tests, z))

  found : position falls_short os ≡ cond (ltb (lowest_short os) most_lines) (Some (lowest_short os)) None
  found = ap (λ (k : ℕ). cond (ltb k (length os)) (Some k) None) first_is ∙ ap (λ (n : ℕ). cond (ltb (lowest_short os) n) (Some (lowest_short os)) None) size

  -- no uplink fell short
  pub none_lowest : None ≡ position falls_short os → None ≡ shortfall os
  none_lowest e = elim (cases_lt (lowest_short os) most_lines) [
    | inl l ↦ let t : ltb (lowest_short os) most_lines ≡ true = grind (arith, nat_tests, l) in let h = found in let q : None ≡ Some (lowest_short os) = e ∙ h ∙ ap (λ (b : Bool). cond b (Some (lowest_short os)) None) t in let z : ◌≡◌ {A = ℕ} 0 1 = cc in absurd (omega arith)
    | inr l ↦ sym (none_short os l)
  ]

  -- uplink i is the lowest that fell short
  module _ (i : ℕ) (e : Some i ≡ position falls_short os) where
    pub lowest_in : (i ≡ lowest_short os) × (i < most_lines)
    lowest_in = elim (cases_lt (lowest_short os) most_lines) [
      | inl l ↦ let t : ltb (lowest_short os) most_lines ≡ true = grind (arith, nat_tests, l) in let h = found in let q : Some i ≡ Some (lowest_short os) = e ∙ h ∙ ap (λ (b : Bool). cond b (Some (lowest_short os)) None) t in let z : i ≡ lowest_short os = cc in (z, omega arith)
      | inr l ↦ let t : ltb (lowest_short os) most_lines ≡ false = grind (arith, nat_tests, l) in let h = found in let q : Some i ≡ None = e ∙ h ∙ ap (λ (b : Bool). cond b (Some (lowest_short os)) None) t in let z : ◌≡◌ {A = ℕ} 0 1 = cc in absurd (omega arith)
    ]

    pub shortfall_there : (o : Option Outcome) → o ≡ get_or os i None → shortfall os ≡ shortfall_at os i o
    shortfall_there o is = one_short os (omega (arith, lowest_in.0, lowest_in.1)) ∙ ap (λ (k : ℕ). shortfall_at os k (get_or os k None)) (sym lowest_in.0) ∙ ap (shortfall_at os i) (sym is)

  -- the units missing in all
  pub adds_up : sum (map missing os) ≡ missed os
  unfolding missed
  adds_up =
      sym (sum_list (map missing os))
      ∙ ap (λ (n : ℕ). sum_below n (λ k. get_or (map missing os) k 0)) (length-map os missing ∙ size)
      ∙ sum_same most_lines (λ k. get_or (map missing os) k 0) (missing_at os) (λ k l. get_or-map missing os k None)

  -- what is told of uplink i, the lowest that fell short
  module _ (i : ℕ) (e : Some i ≡ position falls_short os) (o : Outcome) (is : Some o ≡ get_or os i None) where
    abbrev told : ℕ → ℕ → Option Shortfall
    told m t = Some (record { up = uplink i; down = o.join.down; missing = m; total = t })

    pub told_is : (m t : ℕ) → m ≡ missing (Some o) → t ≡ sum (map missing os) → told m t ≡ shortfall os
    told_is m t m-is t-is = ap (λ (x : ℕ). told x t) m-is ∙ ap (told (missing (Some o))) (t-is ∙ adds_up) ∙ sym (shortfall_there i e (Some o) is)
