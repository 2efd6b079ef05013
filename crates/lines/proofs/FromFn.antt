-- Arrays made by calls of a closure at each number below some other. Assumes nothing.
use Rattle.std.proofs.Common.{◌≡◌, ℕ, zero, suc, ◌+◌, ◌<◌, ◌≤◌, List, get_or, inl, inr, ◌∙◌, arith}
use Rattle.std.proofs.lemmas.Bool.{cases_eq}
use Rattle.std.specs.Fn.{Called, Mut}
use Rattle.std.specs.Array.{IsFromFnResultFrom}

-- `from_fn` of a closure that stays as it was and gives h of each number
pub each_from_fn : {F B : Type 0} (g : Mut F (ℕ × Unit {0}) B) (f : F) (h : ℕ → B) → ((i : ℕ) (y : B) (q : F) → Called g f (i, tt) y q → (q ≡ f) × (y ≡ h i))
    → (ys : List B) (i n : ℕ) → IsFromFnResultFrom g f ys i n → (k : ℕ) (d : B) → i ≤ k → k < i + n → get_or ys k d ≡ h k
each_from_fn g f h gives ys i zero calls k d from below = absurd (omega arith)
each_from_fn g f h gives ys i (suc n) calls k d from below =
    let (q, y, at, call, rest) = calls in
    let here = gives i y q call in
    elim (cases_eq k i) [
      | inl e ↦ rw e (at.1 d ∙ here.1)
      | inr ne ↦ each_from_fn g f h gives ys (i + 1) n (rw here.0 at rest) k d (omega arith) (omega arith)
    ]
