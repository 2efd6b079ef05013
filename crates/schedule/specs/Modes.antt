-- Modes and schedules, and when a schedule serves a matrix. Assumes nothing.
use Rattle.std.specs.Prelude.{◌≡◌, ℕ, ◌+◌, ◌<◌, ◌≤◌, cond, List, [], ◌∷◌, Some, None, Option, ◌==◌, nat_lt, slice_index_or}
use Rattle.lines.specs.Matrix.{Matrix}
use Rattle.schedule.specs.declared.Join.{Join}
use Rattle.schedule.specs.declared.Mode.{Mode}

-- a dwell has two bytes in a record
abbrev pub longest_dwell : ℕ
longest_dwell = 65535

-- what uplink i is granted
abbrev pub grant_of : Mode → ℕ → Option Join
grant_of m i = slice_index_or m.row i None

-- the units that a grant gives to downlink j
abbrev pub units_to : ℕ → Option Join → ℕ
units_to j None = 0
units_to j (Some x) = cond (x.down.0 == j) x.units 0

-- the units that a mode grants at each crosspoint
abbrev pub granted : Mode → Matrix
granted m i j = units_to j (grant_of m i)

-- the rules of a mode on n lines
pub record Sound (n : ℕ) (m : Mode) : Type 0 where
  pub lasts : 1 ≤ m.dwell
  pub ends : m.dwell ≤ longest_dwell
  pub uplinks : (i : ℕ) (x : Join) → grant_of m i ≡ Some x → i < n
  pub downlinks : (i : ℕ) (x : Join) → grant_of m i ≡ Some x → x.down.0 < n
  pub some : (i : ℕ) (x : Join) → grant_of m i ≡ Some x → 1 ≤ x.units
  pub within : (i : ℕ) (x : Join) → grant_of m i ≡ Some x → x.units ≤ m.dwell
  pub apart : (i h : ℕ) (x y : Join) → grant_of m i ≡ Some x → grant_of m h ≡ Some y → x.down.0 ≡ y.down.0 → i ≡ h

abbrev pub AllSound : ℕ → List Mode → Type 0
AllSound n [] = Unit {0}
AllSound n (m ∷ ms) = Sound n m × AllSound n ms

-- the length of a schedule: the sum of its dwells
abbrev pub span : List Mode → ℕ
span [] = 0
span (m ∷ ms) = m.dwell + span ms

-- a number, where it has at most 32 bits
abbrev pub in_32_bits : ℕ → Option ℕ
in_32_bits x = cond (nat_lt x 4294967296) (Some x) None

-- the units that a schedule grants at each crosspoint
abbrev pub grants : List Mode → Matrix
grants [] a b = 0
grants (m ∷ ms) a b = granted m a b + grants ms a b

-- each mode keeps the rules, and the grants of each crosspoint add up to exactly its units
pub record Serves (n : ℕ) (ms : List Mode) (owed : Matrix) : Type 0 where
  pub sound : AllSound n ms
  pub exact : (a b : ℕ) → a < n → b < n → grants ms a b ≡ owed a b
