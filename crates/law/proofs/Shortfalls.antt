-- The lowest uplink that fell short. Assumes nothing.
use Rattle.std.proofs.Common.{◌≡◌, ℕ, zero, suc, ◌<◌, ◌≤◌, ltb, List, get_or, Some, None, Option, sym, refl, ap, ◌∙◌, subst, inl, inr, arith, MatchOption}
use Rattle.std.proofs.lemmas.Bool.{cases_lt, cases_eq, lt-ltb, le-ltb, cond-true, cond-false}
use Rattle.std.proofs.lemmas.Bool.Decides.{nat_tests}
use Rattle.lines.specs.Sums.{lowest_below}
use Rattle.lines.specs.Matrix.{uplink}
use Rattle.lines.proofs.Sums.{sum_zeros, term_le_sum}
use Rattle.switch.specs.declared.Outcome.{Outcome}
use Rattle.switch.specs.Meaning.{most_lines}
use Rattle.runs.specs.declared.Shortfall.{Shortfall}
use Rattle.law.specs.Runs.{missing, missing_at, missed, lowest_short, shortfall_at, shortfall, Lowest, ReportIsLowest}

-- the lowest number at which f is above zero
lowest_le : (n : ℕ) (f : ℕ → ℕ) → lowest_below n f ≤ n
lowest_le zero f = omega arith
lowest_le (suc n) f = let h = lowest_le n f in grind (arith, nat_tests, h)

lowest_above : (n : ℕ) (f : ℕ → ℕ) → lowest_below n f < n → 0 < f (lowest_below n f)
lowest_above zero f h = omega arith
lowest_above (suc n) f h =
    elim (cases_eq (lowest_below n f) n) [
      | inl e ↦ elim (cases_eq (f n) 0) [
        | inl z ↦ absurd (grind (arith, nat_tests, e, z, h))
        | inr z ↦ (let here : lowest_below (suc n) f ≡ n = grind (arith, nat_tests, e, z) in subst (λ (k : ℕ). 0 < f k) (sym here) (omega arith))
      ]
      | inr e ↦ (
          let same : lowest_below (suc n) f ≡ lowest_below n f = grind (arith, nat_tests, e) in
          let b = lowest_le n f in
          subst (λ (k : ℕ). 0 < f k) (sym same) (lowest_above n f (omega arith)))
    ]

lowest_below_none : (n : ℕ) (f : ℕ → ℕ) (k : ℕ) → k < lowest_below n f → f k ≡ 0
lowest_below_none zero f k h = omega arith
lowest_below_none (suc n) f k h =
    elim (cases_eq (lowest_below n f) n) [
      | inl e ↦ elim (cases_lt k n) [
        | inl l ↦ lowest_below_none n f k (omega arith)
        | inr l ↦ elim (cases_eq (f n) 0) [
          | inl z ↦ (let b : lowest_below (suc n) f ≡ suc n = grind (arith, nat_tests, e, z) in let q : k ≡ n = omega arith in ap f q ∙ z)
          | inr z ↦ (let b : lowest_below (suc n) f ≡ n = grind (arith, nat_tests, e, z) in absurd (omega arith))
        ]
      ]
      | inr e ↦ (let same : lowest_below (suc n) f ≡ lowest_below n f = grind (arith, nat_tests, e) in lowest_below_none n f k (omega arith))
    ]

-- an uplink that fell short had a grant
granted_some : (o : Option Outcome) → 0 < missing o → (x : Outcome) × (o ≡ Some x)
granted_some None h = absurd (omega arith)
granted_some (Some x) h = (x, refl)

module _ (os : List (Option Outcome)) where
  abbrev low : ℕ
  low = lowest_short os

  pub inside : low ≤ most_lines
  unfolding lowest_short
  inside = lowest_le most_lines (missing_at os)

  pub none_short : most_lines ≤ low → shortfall os ≡ None
  none_short h = cond-false (ltb low most_lines) (shortfall_at os low (get_or os low None)) None (le-ltb low most_lines h)

  pub one_short : low < most_lines → shortfall os ≡ shortfall_at os low (get_or os low None)
  one_short h = cond-true (ltb low most_lines) (shortfall_at os low (get_or os low None)) None (lt-ltb low most_lines h)

  pub above : low < most_lines → 0 < missing_at os low
  unfolding lowest_short
  above h = lowest_above most_lines (missing_at os) h

  pub below : (k : ℕ) → k < low → missing_at os k ≡ 0
  unfolding lowest_short
  below = lowest_below_none most_lines (missing_at os)

  nothing_missed : most_lines ≤ low → missed os ≡ 0
  unfolding missed
  nothing_missed h = sum_zeros most_lines (missing_at os) (λ k l. below k (omega arith))

  part_missed : low < most_lines → missing_at os low ≤ missed os
  unfolding missed
  part_missed h = term_le_sum most_lines (missing_at os) low h

  some_lowest : low < most_lines → (x : Shortfall) × (shortfall os ≡ Some x) × Lowest os x
  some_lowest h =
      let o = granted_some (get_or os low None) (above h) in
      let same : missing_at os low ≡ missing (Some o.0) = ap missing o.1 in (
        record { up = uplink low; down = o.0.join.down; missing = missing (Some o.0); total = missed os },
        one_short h ∙ ap (shortfall_at os low) o.1,
        record { some = omega (arith, above h); here = same; none_below = below; all = refl },
      )

  pub lowest_told : (r : Option Shortfall) → r ≡ shortfall os → MatchOption r (missed os ≡ 0) (Lowest os)
  lowest_told r e =
      elim (cases_lt low most_lines) [
        | inl h ↦ (let w = some_lowest h in subst (λ (x : Option Shortfall). MatchOption x (missed os ≡ 0) (Lowest os)) (sym (e ∙ w.1)) w.2)
        | inr h ↦ subst (λ (x : Option Shortfall). MatchOption x (missed os ≡ 0) (Lowest os)) (sym (e ∙ none_short h)) (nothing_missed h)
      ]

  -- a step that tells of nothing missing, and one that does
  pub whole_none : shortfall os ≡ None → missed os ≡ 0
  whole_none e = lowest_told None (sym e)

  pub short_some : (x : Shortfall) → shortfall os ≡ Some x → 0 < missed os
  short_some x e =
      let w = lowest_told (Some x) (sym e) in
      elim (cases_lt 0 (missed os)) [
        | inl h ↦ h
        | inr h ↦ (
            let low-in : low < most_lines = elim (cases_lt low most_lines) [ inl l ↦ l | inr l ↦ (let n = none_short l in let z : ◌≡◌ {A = ℕ} 0 1 = cc in absurd (omega arith)) ] in
            omega (arith, above low-in, part_missed low-in))
      ]

pub report_is_lowest : ReportIsLowest
report_is_lowest os = lowest_told os (shortfall os) refl
