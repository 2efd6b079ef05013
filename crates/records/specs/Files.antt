-- Files of mode records, and when a file is a schedule. Assumes nothing.
use Rattle.std.specs.Prelude.{◌≡◌, ℕ, ◌/◌, ◌%◌, ◌<◌, ◌≤◌, List, map, length}
use Rattle.std.specs.List.{range_with_len}
use Rattle.lines.specs.Matrix.{Matrix}
use Rattle.schedule.specs.declared.Mode.{Mode}
use Rattle.schedule.specs.Modes.{Serves}
use Rattle.records.specs.Layout.{mode_of, Proper}
use Rattle.records.specs.Reader.{part}

-- the number of whole records
abbrev pub count : List ℕ → ℕ
count file = length file / 52

-- nothing is left after the whole records
abbrev pub Whole : List ℕ → Type 0
Whole file = length file % 52 ≡ 0

-- the first k records are modes of n lines
abbrev pub AllProper : ℕ → ℕ → List ℕ → Type 0
AllProper n k file = (h : ℕ) → h < k → Proper n (part file h)

-- record k is the first that is no mode of n lines
pub record FirstImproper (n : ℕ) (file : List ℕ) (k : ℕ) : Type 0 where
  pub there : k < count file
  pub improper : Proper n (part file k) → ⊥
  pub before : AllProper n k file

-- the modes that the first k records say
unfoldable pub modes_below : ℕ → List ℕ → List Mode
modes_below k file = map (λ h. mode_of (part file h)) (range_with_len 0 k)

-- the modes that a file says
abbrev pub modes_in : List ℕ → List Mode
modes_in file = modes_below (count file) file

-- the most records that a schedule's file may have
abbrev pub most_records : ℕ
most_records = 65535

-- the file is a schedule, of modes of n lines, that serves m
pub record Schedules (n : ℕ) (m : Matrix) (file : List ℕ) : Type 0 where
  pub whole : Whole file
  pub few : count file ≤ most_records
  pub proper : AllProper n (count file) file
  pub serves : Serves n (modes_in file) m
