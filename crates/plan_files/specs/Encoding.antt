-- How modes are written as records. Assumes nothing.
use Rattle.std.specs.Prelude.{◌≡◌, ℕ, ◌/◌, ◌%◌, ◌≤◌, min, cond, List, [], ◌∷◌, ◌++◌, length, Some, None, Option, nat_lt}
use Rattle.std.specs.List.{flat_map}
use Rattle.lines.specs.Matrix.{Matrix}
use Rattle.schedule.specs.declared.Join.{Join}
use Rattle.schedule.specs.declared.Mode.{Mode}
use Rattle.schedule.specs.Modes.{AllSound, Serves}
use Rattle.records.specs.Layout.{unused, no_grant}
use Rattle.records.specs.Files.{most_records, Schedules}
use Rattle.plan_files.specs.Reading.{Lines, Says}

-- the entry of an uplink without a grant
abbrev pub idle_bytes : List ℕ
idle_bytes = no_grant ∷ 0 ∷ 0 ∷ []

-- the downlink, then the units with the high byte first; a downlink that no entry can name is written as no grant
abbrev pub grant_bytes : Option Join → List ℕ
grant_bytes None = idle_bytes
grant_bytes (Some x) = cond (nat_lt x.down.0 unused) (x.down.0 ∷ x.units / 256 ∷ x.units % 256 ∷ []) idle_bytes

-- the dwell with the high byte first, the number of lines (255 where no byte holds it), a zero byte
abbrev pub header : ℕ → Mode → List ℕ
header n m = m.dwell / 256 ∷ m.dwell % 256 ∷ min n 255 ∷ 0 ∷ []

-- the record of a mode of n lines
abbrev pub encode : ℕ → Mode → List ℕ
encode n m = header n m ++ flat_map grant_bytes m.row

-- the records of modes one after the other
abbrev pub encoded : ℕ → List Mode → List ℕ
encoded n ms = flat_map (encode n) ms

-- a mode has a place for each of sixteen uplinks
abbrev pub Full : Mode → Type 0
Full m = length m.row ≡ 16

-- modes that keep the rules are said by their records
abbrev pub ComesBack : ℕ → List Mode → Type 0
ComesBack n ms = Lines n → AllSound n ms → Says n ms (encoded n ms)

-- and where they serve a matrix, their records are a schedule that serves it
abbrev pub ServesOn : ℕ → List Mode → Type 0
ServesOn n ms = (m : Matrix) → Lines n → length ms ≤ most_records → Serves n ms m → Schedules n m (encoded n ms)
