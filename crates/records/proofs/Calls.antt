-- Calls of a closure at each number below some other. Assumes nothing.
use Rattle.std.proofs.Common.{◌≡◌, ℕ, ◌<◌, Bool, true, false, length, get_or, refl, subst, arith, Decides}
use Rattle.std.proofs.lemmas.List.FromFn.{length-range_with_len, get_or-range_with_len}
use Rattle.std.specs.Bool.{MatchBool}
use Rattle.std.specs.List.{range_with_len, AllWithin, HoldsAt}

-- what `all` tells of the numbers below n
pub all_below : (P : ℕ → Type 0) (n : ℕ) (r : Bool)
    → MatchBool r (AllWithin P (range_with_len 0 n) 0 (length (range_with_len 0 n))) ((k : ℕ) × (k < length (range_with_len 0 n)) × HoldsAt (λ i. P i → ⊥) (range_with_len 0 n) k)
    → Decides r ((i : ℕ) → i < n → P i)
all_below P n true all = (
  (λ _ i l.
      let e : get_or (range_with_len 0 n) i 0 ≡ i = omega (arith, get_or-range_with_len 0 n i 0 l) in
      subst P e (all i 0 (omega arith) (omega (arith, length-range_with_len 0 n)))),
  (λ _. refl),
)
all_below P n false (k, l, bad) = (
  (λ e. cc),
  (λ all.
      let less : k < n = omega (arith, length-range_with_len 0 n) in
      let e : get_or (range_with_len 0 n) k 0 ≡ k = omega (arith, get_or-range_with_len 0 n k 0 less) in
      absurd (subst (λ (i : ℕ). P i → ⊥) e (bad 0) (all k less))),
)
