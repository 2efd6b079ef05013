-- Counting: a set that maps into another, no two to one, is no larger. Assumes nothing.
use Rattle.std.proofs.Common.{◌≡◌, ℕ, zero, suc, ◌+◌, ◌<◌, ◌≤◌, Bool, true, false, not, ◌&&◌, eqb, sym, refl, ap, ◌∙◌, subst, inl, inr, arith}
use Rattle.std.proofs.lemmas.Bool.{cases_Bool, cases_eq, and_from, and_right, not_from_true, not_from_false, eq-eqb, ne_eqb, both_ways, or_cases, or_left, or_right}
use Rattle.lines.specs.Sums.{count_below, any_below, one_if}
use Rattle.lines.proofs.Sums.{sum_same, sum_change, sum_le}

-- the set s without the line a
abbrev pub but : (ℕ → Bool) → ℕ → ℕ → Bool
but s a j = s j && not (eqb j a)

pub but_other : (s : ℕ → Bool) (a j : ℕ) → s j ≡ true → (j ≡ a → ⊥) → but s a j ≡ true
but_other s a j h ne = and_from (s j) (not (eqb j a)) h (not_from_false (eqb j a) (ne_eqb j a ne))

and_true_r : (b : Bool) → (b && true) ≡ b
and_true_r true = refl
and_true_r false = refl

but_same : (s : ℕ → Bool) (a j : ℕ) → (j ≡ a → ⊥) → but s a j ≡ s j
but_same s a j ne = ap (λ b. s j && b) (not_from_false (eqb j a) (ne_eqb j a ne)) ∙ and_true_r (s j)

but_gone : (s : ℕ → Bool) (a : ℕ) → but s a a ≡ false
but_gone s a = and_right (s a) (not (eqb a a)) (not_from_true (eqb a a) (eq-eqb a a refl))

-- sets that agree below n have one count
pub count_same : (n : ℕ) (s t : ℕ → Bool) → ((j : ℕ) → j < n → s j ≡ t j) → count_below n s ≡ count_below n t
count_same n s t h = sum_same n (λ k. one_if (s k)) (λ k. one_if (t k)) (λ k l. ap one_if (h k l))

one_le : (a b : Bool) → (a ≡ true → b ≡ true) → one_if a ≤ one_if b
one_le true true h = omega arith
one_le true false h = absurd (both_ways false refl (h refl))
one_le false true h = omega arith
one_le false false h = omega arith

-- a set within another has no more lines
pub count_within : (n : ℕ) (s t : ℕ → Bool) → ((j : ℕ) → j < n → s j ≡ true → t j ≡ true) → count_below n s ≤ count_below n t
count_within n s t h = sum_le n (λ k. one_if (s k)) (λ k. one_if (t k)) (λ k l. one_le (s k) (t k) (h k l))

-- one line fewer
pub count_but : (n : ℕ) (s : ℕ → Bool) (a : ℕ) → a < n → s a ≡ true → count_below n s ≡ count_below n (but s a) + 1
count_but n s a lt h =
    omega (arith, ap one_if h, ap one_if (but_gone s a), sum_change n (λ k. one_if (s k)) (λ k. one_if (but s a k)) a lt (λ x l ne. ap one_if (sym (but_same s a x ne))))

-- a set within another that lacks a line of it has fewer lines
pub count_fewer : (n : ℕ) (s t : ℕ → Bool) (a : ℕ) → a < n → ((j : ℕ) → j < n → s j ≡ true → t j ≡ true) → s a ≡ false → t a ≡ true → count_below n s < count_below n t
count_fewer n s t a lt h gone there =
    omega (arith, count_but n t a lt there, count_within n s (but t a) (λ j l x. but_other t a j (h j l x) (λ e. both_ways (s a) gone (ap s (sym e) ∙ x))))

-- where each line of s below k goes to a line of t below n, and no two to one, s has no more lines than t
pub count_into : (k n : ℕ) (s t : ℕ → Bool) (R : ℕ → ℕ → Type 0) → ((i : ℕ) → i < k → s i ≡ true → (j : ℕ) × (j < n) × (t j ≡ true) × R i j) → ((i v j : ℕ) → R i j → R v j → i ≡ v) → count_below k s ≤ count_below n t
count_into zero n s t R to apart = omega arith
count_into (suc k) n s t R to apart =
    elim (cases_Bool (s k)) [
      | inr isnt ↦ omega (arith, ap one_if isnt, count_into k n s t R (λ i lt h. to i (omega arith) h) apart)
      | inl is ↦
          let w = to k (omega arith) is in
          let rest : count_below k s ≤ count_below n (but t w.0) =
          count_into k n s (but t w.0) R
          (λ i lt h. let u = to i (omega arith) h in (
            u.0,
            u.1,
            but_other t w.0 u.0 u.2 (λ e. let P : ℕ → Type 0 = λ z. R i z in
                let f : i ≡ k = apart i k w.0 (subst P e u.3) w.3 in omega arith),
            u.3,
          )) apart in
          omega (arith, ap one_if is, count_but n t w.0 w.1 w.2)
    ]

-- a set with a line in it counts
pub count_some : (n : ℕ) (s : ℕ → Bool) (a : ℕ) → a < n → s a ≡ true → 0 < count_below n s
count_some n s a lt h = omega (arith, count_but n s a lt h)

-- ---- whether there is one

pub any_from : (n : ℕ) (s : ℕ → Bool) (a : ℕ) → a < n → s a ≡ true → any_below n s ≡ true
any_from zero s a lt h = absurd (omega arith)
any_from (suc n) s a lt h =
    elim (cases_eq a n) [
      | inl e ↦ or_right (any_below n s) (s n) (ap s (sym e) ∙ h)
      | inr ne ↦ or_left (any_below n s) (s n) (any_from n s a (omega arith) h)
    ]

pub any_some : (n : ℕ) (s : ℕ → Bool) → any_below n s ≡ true → (a : ℕ) × (a < n) × (s a ≡ true)
any_some zero s h = absurd (both_ways false refl h)
any_some (suc n) s h =
    elim (or_cases (any_below n s) (s n) h) [
      | inl below ↦ let w = any_some n s below in (w.0, omega arith, w.2)
      | inr here ↦ (n, omega arith, here)
    ]

pub any_none : (n : ℕ) (s : ℕ → Bool) → any_below n s ≡ false → (a : ℕ) → a < n → s a ≡ false
any_none n s h a lt = elim (cases_Bool (s a)) [ inl is ↦ absurd (both_ways (any_below n s) h (any_from n s a lt is)) | inr isnt ↦ isnt ]
