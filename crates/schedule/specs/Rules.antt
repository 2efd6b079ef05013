-- The rules of a mode, grant by grant. Assumes nothing.
use Rattle.std.specs.Prelude.{◌≡◌, ℕ, ◌<◌, ◌≤◌, Some, ◌≢◌}
use Rattle.schedule.specs.declared.Join.{Join}
use Rattle.schedule.specs.declared.Mode.{Mode}
use Rattle.schedule.specs.Modes.{grant_of}

-- a grant of uplink i is for one of n lines, and for some units within the dwell
pub record Fitting (n dwell i : ℕ) (x : Join) : Type 0 where
  pub uplink : i < n
  pub downlink : x.down.0 < n
  pub some : 1 ≤ x.units
  pub within : x.units ≤ dwell

-- no uplink below i is granted downlink j
abbrev pub Free : Mode → ℕ → ℕ → Type 0
Free m i j = (h : ℕ) (y : Join) → h < i → grant_of m h ≡ Some y → y.down.0 ≢ j

-- the grant x of uplink i keeps the rules, beside those of the uplinks below
pub record Kept (n : ℕ) (m : Mode) (i : ℕ) (x : Join) : Type 0 where
  pub fits : Fitting n m.dwell i x
  pub free : Free m i x.down.0
