-- What a mode and a schedule grant on a line. Assumes nothing.
use Rattle.std.proofs.Common.{◌≡◌, ℕ, zero, suc, ◌<◌, ◌≤◌, eqb, List, [], ◌∷◌, Some, None, Option, sym, refl, ap, ◌∙◌, inl, inr, arith}
use Rattle.std.proofs.lemmas.Bool.{cases_eq, cases_lt, eq-eqb, ne_eqb, cond-true, cond-false}
use Rattle.lines.specs.declared.Line.{Line}
use Rattle.lines.specs.declared.Line.TheVariants.{Up, Down}
use Rattle.lines.specs.Sums.{sum_below}
use Rattle.lines.specs.Matrix.{load}
use Rattle.lines.proofs.Sums.{sum_zeros}
use Rattle.lines.proofs.Loads.{load_same, load_add, load_none, busiest_bound}
use Rattle.schedule.specs.declared.Join.{Join}
use Rattle.schedule.specs.declared.Mode.{Mode}
use Rattle.schedule.specs.Modes.{grant_of, units_to, granted, Sound, AllSound, span, grants}
use Rattle.schedule.specs.Bounds.{NoShorter}

-- units at a crosspoint come of a grant there
pub given : (o : Option Join) (j : ℕ) → 0 < units_to j o → (x : Join) × (o ≡ Some x) × (x.down.0 ≡ j) × (units_to j o ≡ x.units)
given None j h = absurd (omega arith)
given (Some x) j h =
    elim (cases_eq x.down.0 j) [
      | inl e ↦ (x, refl, e, cond-true (eqb x.down.0 j) x.units 0 (eq-eqb x.down.0 j e))
      | inr ne ↦ absurd (omega (arith, cond-false (eqb x.down.0 j) x.units 0 (ne_eqb x.down.0 j ne)))
    ]

-- no sum where no more than one number is above zero is above the largest of them
pub sum_single : (n : ℕ) (f : ℕ → ℕ) (d : ℕ) → ((k : ℕ) → f k ≤ d) → ((j k : ℕ) → 0 < f j → 0 < f k → j ≡ k) → sum_below n f ≤ d
sum_single zero f d h one = omega arith
sum_single (suc n) f d h one =
    elim (cases_lt 0 (f n)) [
      | inl l ↦ (let z : sum_below n f ≡ 0 = sum_zeros n f (λ k m. elim (cases_lt 0 (f k)) [ inl p ↦ (let e : k ≡ n = one k n p l in omega arith) | inr p ↦ omega arith ]) in omega (arith, h n))
      | inr l ↦ omega (arith, sum_single n f d h one)
    ]

module _ (n : ℕ) (m : Mode) (s : Sound n m) where
  pub granted_within : (i j : ℕ) → granted m i j ≤ m.dwell
  granted_within i j =
      elim (cases_lt 0 (granted m i j)) [
        | inl p ↦ (let g = given (grant_of m i) j p in omega (arith, g.3, s.within i g.0 g.1))
        | inr p ↦ omega arith
      ]

  pub granted_up : (i j k : ℕ) → 0 < granted m i j → 0 < granted m i k → j ≡ k
  granted_up i j k p q =
      let g = given (grant_of m i) j p in
      let h = given (grant_of m i) k q in
      let a = g.1 in
      let b = h.1 in
      let same : g.0 ≡ h.0 = cc in
      sym g.2 ∙ ap (λ (x : Join). x.down.0) same ∙ h.2

  pub granted_down : (i h j : ℕ) → 0 < granted m i j → 0 < granted m h j → i ≡ h
  granted_down i h j p q =
      let a = given (grant_of m i) j p in
      let b = given (grant_of m h) j q in
      s.apart i h a.0 b.0 a.1 b.1 (a.2 ∙ sym b.2)

  pub granted_inside : (i j : ℕ) → 0 < granted m i j → (i < n) × (j < n)
  granted_inside i j p =
      let g = given (grant_of m i) j p in
      (s.uplinks i g.0 g.1, omega (arith, g.2, s.downlinks i g.0 g.1))

  -- in one mode a line has at most the dwell
  pub load_mode : (l : Line) → load n l (granted m) ≤ m.dwell
  load_mode (Up i) = sum_single n (λ j. granted m i.0 j) m.dwell (granted_within i.0) (granted_up i.0)
  load_mode (Down j) = sum_single n (λ i. granted m i j.0) m.dwell (λ i. granted_within i j.0) (λ i h. granted_down i h j.0)

-- no schedule grants more on a line than its length
pub load_span : (n : ℕ) (l : Line) (ms : List Mode) → AllSound n ms → load n l (grants ms) ≤ span ms
load_span n l [] h = omega (arith, load_none n l)
load_span n l (m ∷ ms) h = omega (arith, load_add n l (granted m) (grants ms), load_mode n m h.0 l, load_span n l ms h.1)

pub no_shorter : NoShorter
no_shorter n ms m s = busiest_bound n m (span ms) (λ l k. omega (arith, load_same n l (grants ms) m k s.exact, load_span n l ms s.sound))
