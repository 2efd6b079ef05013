-- What a telemetry switch carries. Assumes nothing.
use Rattle.std.specs.Prelude.{ℕ, ◌+◌, ◌-◌, ◌*◌, min, cond, List, length, Some, None, Option, ◌==◌, nat_le, nat_lt}
use Rattle.records.specs.declared.record.Entry.{Entry}
use Rattle.records.specs.Layout.{entry_at}
use Rattle.records.specs.Reader.{part}
use Rattle.telemetry.specs.Made.{unread}

-- record n of a file, or none if it is not wholly there
abbrev pub record_at : List ℕ → ℕ → Option (List ℕ)
record_at file n = cond (nat_le (52 * n + 52) (length file)) (Some (part file n)) None

-- the entry of uplink i, or none from sixteen up
abbrev pub entry_of : List ℕ → ℕ → Option Entry
entry_of bytes i = cond (nat_lt i 16) (Some (entry_at bytes i)) None

-- the smaller of the granted units and the entry's, if the entry names the downlink, else 0
abbrev pub by_entry : Option Entry → ℕ → ℕ → ℕ
by_entry None j u = 0
by_entry (Some e) j u = cond (e.down.0 == j) (min u e.units) 0

-- by the entry of uplink i
abbrev pub by_record : Option (List ℕ) → ℕ → ℕ → ℕ → ℕ
by_record None i j u = 0
by_record (Some bytes) i j u = by_entry (entry_of bytes i) j u

-- the record that was taken up by the open that left this room
abbrev pub taken_up : List ℕ → ℕ → Option (List ℕ)
taken_up file room = cond (nat_lt room (unread file)) (record_at file (unread file - room - 1)) None

abbrev pub reports : List ℕ → ℕ → ℕ → ℕ → ℕ → ℕ
reports file room i j u = by_record (taken_up file room) i j u
