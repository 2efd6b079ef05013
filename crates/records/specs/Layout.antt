-- The bytes of a mode record, and the mode that they say. Numbers of two bytes have the high byte first. Assumes nothing.
use Rattle.std.specs.Prelude.{◌≡◌, ℕ, ◌+◌, ◌*◌, ◌<◌, ◌≤◌, cond, List, map, Some, None, Option, nat_lt, slice_index, slice_index_or}
use Rattle.std.specs.List.{range_with_len}
use Rattle.lines.specs.Matrix.{downlink}
use Rattle.schedule.specs.declared.Join.{Join}
use Rattle.schedule.specs.declared.Mode.{Mode}
use Rattle.schedule.specs.Modes.{Sound}
use Rattle.records.specs.declared.record.Entry.{Entry}

-- the number in two bytes
abbrev pub word : List ℕ → ℕ → ℕ
word bytes at = 256 * slice_index bytes at + slice_index bytes (at + 1)

abbrev pub dwell_in : List ℕ → ℕ
dwell_in r = word r 0

abbrev pub lines_in : List ℕ → ℕ
lines_in r = slice_index r 2

-- the entry of uplink i
abbrev pub entry_at : List ℕ → ℕ → Entry
entry_at r i = record { down = downlink (slice_index r (4 + 3 * i)); units = word r (5 + 3 * i) }

-- 255 names no downlink, and 254 is the test load: neither is a grant
abbrev pub unused : ℕ
unused = 254

abbrev pub no_grant : ℕ
no_grant = 255

abbrev pub grant_in : Entry → Option Join
grant_in e = cond (nat_lt e.down.0 unused) (Some (record { down = e.down; units = e.units })) None

-- the grants of the sixteen uplinks
unfoldable pub row_in : List ℕ → List (Option Join)
row_in r = map (λ i. grant_in (entry_at r i)) (range_with_len 0 16)

-- the mode that a record says
abbrev pub mode_of : List ℕ → Mode
mode_of r = record { dwell = dwell_in r; row = row_in r }

-- what entry i must be, of n lines
pub record Neat (n i : ℕ) (e : Entry) : Type 0 where
  pub idle : unused ≤ e.down.0 → e.units ≡ 0
  pub spare : n ≤ i → e.down.0 ≡ no_grant

abbrev pub AllNeat : ℕ → List ℕ → Type 0
AllNeat n r = (i : ℕ) → i < 16 → Neat n i (entry_at r i)

-- the record keeps its layout, for n lines
pub record Layout (n : ℕ) (r : List ℕ) : Type 0 where
  pub lines : lines_in r ≡ n
  pub blank : slice_index_or r 3 0 ≡ 0
  pub entries : AllNeat n r

-- and its mode keeps the rules of modes
pub record Proper (n : ℕ) (r : List ℕ) : Type 0 where
  pub layout : Layout n r
  pub sound : Sound n (mode_of r)
