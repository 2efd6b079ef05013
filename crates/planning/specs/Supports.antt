-- The support of a matrix, and how an engine gets it. Assumes nothing.
use Rattle.std.specs.Prelude.{ℕ, ◌*◌, ◌^◌, Bool, cond, List, map, nat_lt}
use Rattle.std.specs.List.{range_with_len}
use Rattle.lines.specs.Sums.{sum_below, count_below, one_if}
use Rattle.lines.specs.Matrix.{Matrix}
use Rattle.matching.specs.Supports.{Support}

-- the crosspoints above zero
abbrev pub support : Matrix → Support
support p i j = nat_lt 0 (p i j)

-- how many of the n by n crosspoints are above zero
abbrev pub positives : ℕ → Matrix → ℕ
positives n p = sum_below n (λ i. count_below n (support p i))

-- the lines of a set below n as one number: line k counts 2 ^ k
abbrev pub in_bits : ℕ → (ℕ → Bool) → ℕ
in_bits n s = sum_below n (λ k. one_if (s k) * 2 ^ k)

-- row i of the support; rows from n up are empty
abbrev pub row_of_support : ℕ → Matrix → ℕ → ℕ
row_of_support n p i = cond (nat_lt i n) (in_bits n (support p i)) 0

-- the support of n by n crosspoints as sixteen rows of bits
unfoldable pub support_rows : ℕ → Matrix → List ℕ
support_rows n p = map (row_of_support n p) (range_with_len 0 16)
