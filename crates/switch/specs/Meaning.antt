-- What a switch means. Assumes nothing.
use Rattle.std.specs.Prelude.{◌≡◌, ℕ, ◌≤◌, Bool, true, false, List, length, replicate, Some, None, Option}
use Rattle.lines.specs.Matrix.{Matrix}
use Rattle.schedule.specs.declared.Join.{Join}
use Rattle.schedule.specs.declared.Mode.{Mode}
use Rattle.switch.specs.declared.Outcome.{Outcome}

-- the most modes that a switch takes, and the most lines that it has
abbrev pub most_room : ℕ
most_room = 65535

abbrev pub most_lines : ℕ
most_lines = 16

pub record Meaning : Type 0 where
  pub lines : ℕ
  pub room : ℕ
  pub clock : ℕ
  pub carried : Matrix
  pub mode : Option Mode
  pub last : Option (List (Option Outcome))

-- sixteen uplinks without a grant
abbrev pub no_grants : List (Option Join)
no_grants = replicate 16 None

abbrev pub is_open : Option Mode → Bool
is_open None = false
is_open (Some m) = true

abbrev pub dwell_of : Option Mode → ℕ
dwell_of None = 0
dwell_of (Some m) = m.dwell

abbrev pub row_of : Option Mode → List (Option Join)
row_of None = no_grants
row_of (Some m) = m.row

-- what every switch keeps
pub record Sound (m : Meaning) : Type 0 where
  pub some_line : 1 ≤ m.lines
  pub few_lines : m.lines ≤ most_lines
  pub room_fits : m.room ≤ most_room
  pub sixteen : length (row_of m.mode) ≡ 16
