-- What a crossbar keeps true of its mode. Assumes nothing.
use Rattle.std.specs.Prelude.{ℕ, Some, None, Option, slice_index_or}
use Rattle.schedule.specs.declared.Join.{Join}
use Rattle.schedule.specs.declared.Mode.{Mode}
use Rattle.switch.specs.declared.Outcome.{Outcome}

-- an open mode may add as much to the clock as the longest dwell
abbrev pub under_way : Option Mode → ℕ
under_way None = 0
under_way (Some x) = 65535

abbrev pub units_of : Option Join → ℕ
units_of None = 0
units_of (Some x) = x.units

abbrev pub down_of : Option Join → ℕ
down_of None = 0
down_of (Some x) = x.down.0

-- the units and the downlink that a mode grants to uplink i, or 0
abbrev pub units_held : Option Mode → ℕ → ℕ
units_held None i = 0
units_held (Some x) i = units_of (slice_index_or x.row i None)

abbrev pub down_held : Option Mode → ℕ → ℕ
down_held None i = 0
down_held (Some x) i = down_of (slice_index_or x.row i None)

abbrev pub down_out : Option Outcome → ℕ
down_out None = 0
down_out (Some o) = o.join.down.0
