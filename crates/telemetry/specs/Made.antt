-- When a telemetry switch can be made, and how many records it has to read. Assumes nothing.
use Rattle.std.specs.Prelude.{ℕ, ◌/◌, ◌%◌, min, cond, List, length, Some, None, Option, ◌==◌}
use Rattle.lines.specs.declared.Place.{Place}
use Rattle.lines.specs.declared.Place.TheVariants.{Nowhere}
use Rattle.switch.specs.Meaning.{most_room}
use Rattle.crossbar.specs.Made.{bad_lines}
use Rattle.telemetry.specs.declared.decline.TelemetryDecline.{TelemetryDecline}
use Rattle.telemetry.specs.declared.decline.TelemetryDecline.TheVariants.{LinesOutside, PartRecord}

-- the number and the place of each decline
abbrev pub number : TelemetryDecline → ℕ
number LinesOutside = 1
number PartRecord = 2

abbrev pub place : TelemetryDecline → Place
place LinesOutside = Nowhere
place PartRecord = Nowhere

-- 1: the lines are outside 1 to 16; 2: the file is not whole records
abbrev pub make_decline : ℕ → List ℕ → Option TelemetryDecline
make_decline n file = cond (bad_lines n) (Some LinesOutside) (cond (length file % 52 == 0) None (Some PartRecord))

-- the records of a file that a switch reads: of the first 65,535
abbrev pub unread : List ℕ → ℕ
unread file = min (length file / 52) most_room
