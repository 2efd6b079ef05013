-- Sets of lines, held as the bits of a number. Assumes nothing.
use Rattle.std.specs.Prelude.{◌≡◌, ℕ, ◌/◌, ◌%◌, ◌^◌, Bool, true, ◌==◌}
use Rattle.lines.specs.Sums.{count_below}

-- line j is in the set x: the bit of value 2 ^ j is 1
unfoldable pub has : ℕ → ℕ → Bool
has x j = x / 2 ^ j % 2 == 1

abbrev pub In : ℕ → ℕ → Type 0
In x j = has x j ≡ true

-- how many lines below n are in the set x
abbrev pub size : ℕ → ℕ → ℕ
size n x = count_below n (has x)
