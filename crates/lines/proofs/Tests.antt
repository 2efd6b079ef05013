-- A test of all crosspoints that computes. Assumes nothing.
use Rattle.std.proofs.Common.{◌≡◌, ℕ, zero, suc, ◌<◌, Bool, true, ◌&&◌, eqb, inl, inr, arith}
use Rattle.std.proofs.lemmas.Bool.{cases_eq, and_parts, eqb-true}
use Rattle.lines.specs.Matrix.{Matrix, Same}

-- whether f holds of all numbers below n
abbrev pub all_below : ℕ → (ℕ → Bool) → Bool
all_below zero f = true
all_below (suc n) f = all_below n f && f n

all_at : (n : ℕ) (f : ℕ → Bool) → all_below n f ≡ true → (k : ℕ) → k < n → f k ≡ true
all_at zero f e k l = absurd (omega arith)
all_at (suc n) f e k l =
    let parts = and_parts (all_below n f) (f n) e in
    elim (cases_eq k n) [ inl same ↦ rw same parts.1 | inr ne ↦ all_at n f parts.0 k (omega arith) ]

pub tested : (n : ℕ) (p q : Matrix) → all_below n (λ i. all_below n (λ j. eqb (p i j) (q i j))) ≡ true → Same n p q
tested n p q e i j li lj = eqb-true (p i j) (q i j) (all_at n (λ j. eqb (p i j) (q i j)) (all_at n (λ i. all_below n (λ j. eqb (p i j) (q i j))) e i li) j lj)
