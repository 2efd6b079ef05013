-- Sums, the largest and counts over the numbers below n. Assumes nothing.
use Rattle.std.specs.Prelude.{ℕ, zero, suc, ◌+◌, max, Bool, false, cond, ◌||◌, ◌==◌}

-- f 0 + .. + f (n - 1)
abbrev pub sum_below : ℕ → (ℕ → ℕ) → ℕ
sum_below zero f = 0
sum_below (suc n) f = sum_below n f + f n

-- the largest of f 0 .. f (n - 1), and 0 where n is 0
abbrev pub largest_below : ℕ → (ℕ → ℕ) → ℕ
largest_below zero f = 0
largest_below (suc n) f = max (largest_below n f) (f n)

abbrev pub one_if : Bool → ℕ
one_if b = cond b 1 0

-- how many numbers below n are in the set s
abbrev pub count_below : ℕ → (ℕ → Bool) → ℕ
count_below n s = sum_below n (λ k. one_if (s k))

-- whether a number below n is in the set s
abbrev pub any_below : ℕ → (ℕ → Bool) → Bool
any_below zero s = false
any_below (suc n) s = any_below n s || s n

-- the lowest number below n at which f is above zero, or n
abbrev pub lowest_below : ℕ → (ℕ → ℕ) → ℕ
lowest_below zero f = 0
lowest_below (suc n) f = cond (lowest_below n f == n) (cond (f n == 0) (suc n) n) (lowest_below n f)
