-- What every plan keeps true. Assumes nothing.
use Rattle.std.specs.Prelude.{◌≡◌, ℕ, ◌<◌, ◌≤◌, List, [], length, Some, slice_index_or}
use Rattle.schedule.specs.declared.Join.{Join}
use Rattle.schedule.specs.declared.Mode.{Mode}
use Rattle.schedule.specs.Modes.{longest_dwell, grant_of, span}

-- what stands past the last mode
abbrev pub no_mode : Mode
no_mode = record { dwell = 0; row = [] }

-- mode k of a schedule
abbrev pub mode_at : List Mode → ℕ → Mode
mode_at ms k = slice_index_or ms k no_mode

-- a grant of a schedule: in which mode, to which uplink
pub record GrantIn (ms : List Mode) : Type 0 where
  pub mode : ℕ
  pub up : ℕ
  pub join : Join
  pub there : mode < length ms
  pub is : grant_of (mode_at ms mode) up ≡ Some join

-- the rules of each mode on n lines: its dwell
abbrev pub DwellsFit : List Mode → Type 0
DwellsFit ms = (k : ℕ) → k < length ms → (1 ≤ (mode_at ms k).dwell) × ((mode_at ms k).dwell ≤ longest_dwell)

-- the lines of its grants
abbrev pub LinesFit : ℕ → List Mode → Type 0
LinesFit n ms = (g : GrantIn ms) → (g.up < n) × (g.join.down.0 < n)

-- the units of its grants
abbrev pub UnitsFit : List Mode → Type 0
UnitsFit ms = (g : GrantIn ms) → (1 ≤ g.join.units) × (g.join.units ≤ (mode_at ms g.mode).dwell)

-- no downlink has two
abbrev pub Single : List Mode → Type 0
Single ms = (g h : GrantIn ms) → (g.mode ≡ h.mode) × (g.join.down.0 ≡ h.join.down.0) → g.up ≡ h.up

-- each mode has a place for each of sixteen uplinks
abbrev pub RowsWhole : List Mode → Type 0
RowsWhole ms = (k : ℕ) → k < length ms → length (mode_at ms k).row ≡ 16

-- all of it: the modes keep the rules, are some and not too many, and the length is the sum of their dwells
pub record Kept (n long : ℕ) (ms : List Mode) : Type 0 where
  pub some_line : 1 ≤ n
  pub few_lines : n ≤ 16
  pub some_mode : 1 ≤ length ms
  pub few_modes : length ms ≤ 241
  pub dwells : DwellsFit ms
  pub lines : LinesFit n ms
  pub units : UnitsFit ms
  pub single : Single ms
  pub rows : RowsWhole ms
  pub total : long ≡ span ms
  pub short : long ≤ 65535
