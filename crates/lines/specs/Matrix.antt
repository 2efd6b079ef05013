-- Units for each crosspoint, the sum of a line, and the busiest line. Assumes nothing.
use Rattle.std.specs.Prelude.{◌≡◌, ℕ, ◌+◌, ◌<◌, ◌≤◌, max, cond, ◌&&◌, ◌⊎◌, List, [], ◌==◌, ◌≢◌, slice_index, slice_index_or}
use Rattle.lines.specs.declared.Uplink.{Uplink}
use Rattle.lines.specs.declared.Downlink.{Downlink}
use Rattle.lines.specs.declared.Line.{Line}
use Rattle.lines.specs.declared.Line.TheVariants.{Up, Down}
use Rattle.lines.specs.Sums.{sum_below, largest_below}

-- units by uplink and downlink
abbrev pub Matrix : Type 0
Matrix = ℕ → ℕ → ℕ

-- the lines of a number
abbrev pub uplink : ℕ → Uplink
uplink i = record { 0 = i }

abbrev pub downlink : ℕ → Downlink
downlink j = record { 0 = j }

-- the matrix that rows of numbers hold; 0 where there is no number
abbrev pub cells : List (List ℕ) → Matrix
cells rows i j = slice_index (slice_index_or rows i []) j

-- the units of uplink i, of n downlinks
abbrev pub uplink_sum : ℕ → Matrix → ℕ → ℕ
uplink_sum n m i = sum_below n (λ j. m i j)

-- the units of downlink j, of n uplinks
abbrev pub downlink_sum : ℕ → Matrix → ℕ → ℕ
downlink_sum n m j = sum_below n (λ i. m i j)

-- the sum of a line, of n uplinks and n downlinks
abbrev pub load : ℕ → Line → Matrix → ℕ
load n (Up i) m = uplink_sum n m i.0
load n (Down j) m = downlink_sum n m j.0

-- the line is one of n
abbrev pub Inside : ℕ → Line → Type 0
Inside n (Up i) = i.0 < n
Inside n (Down j) = j.0 < n

-- all units
abbrev pub total : ℕ → Matrix → ℕ
total n m = sum_below n (uplink_sum n m)

-- the largest line sum
abbrev pub busiest : ℕ → Matrix → ℕ
busiest n m = max (largest_below n (uplink_sum n m)) (largest_below n (downlink_sum n m))

-- every line sum is b
abbrev pub Even : ℕ → ℕ → Matrix → Type 0
Even n b m = ((i : ℕ) → i < n → uplink_sum n m i ≡ b) × ((j : ℕ) → j < n → downlink_sum n m j ≡ b)

-- every line sum is at most b
abbrev pub Within : ℕ → ℕ → Matrix → Type 0
Within n b m = ((i : ℕ) → i < n → uplink_sum n m i ≤ b) × ((j : ℕ) → j < n → downlink_sum n m j ≤ b)

-- the n by n crosspoints hold the same
abbrev pub Same : ℕ → Matrix → Matrix → Type 0
Same n p q = (i j : ℕ) → i < n → j < n → p i j ≡ q i j

-- nothing outside the n by n crosspoints
abbrev pub Blank : ℕ → Matrix → Type 0
Blank n m = (i j : ℕ) → (n ≤ i) ⊎ (n ≤ j) → m i j ≡ 0

-- u at crosspoint (i, j), 0 at all others
abbrev pub only : ℕ → ℕ → ℕ → Matrix
only i j u a b = cond (a == i && b == j) u 0

-- 0 everywhere
abbrev pub nothing : Matrix
nothing a b = 0

abbrev pub plus : Matrix → Matrix → Matrix
plus p q a b = p a b + q a b

-- q is p with v at (i, j)
abbrev pub Wrote : Matrix → Matrix → ℕ → ℕ → ℕ → Type 0
Wrote p q i j v = (q i j ≡ v) × ((x y : ℕ) → (x ≡ i → y ≢ j) → q x y ≡ p x y)
