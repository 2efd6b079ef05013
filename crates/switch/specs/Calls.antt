-- What each call of a switch does to its meaning, and which decline it meets. Assumes nothing.
use Rattle.std.specs.Prelude.{◌≡◌, ℕ, ◌+◌, ◌-◌, ◌<◌, ◌≤◌, Bool, false, cond, ◌||◌, List, length, is_some, Some, None, Option, Result, ◌==◌, nat_le, nat_lt, slice_index_or, slice_set}
use Rattle.std.specs.List.{list_any}
use Rattle.lines.specs.Verdicts.{told}
use Rattle.lines.specs.declared.Uplink.{Uplink}
use Rattle.lines.specs.declared.Downlink.{Downlink}
use Rattle.lines.specs.declared.Line.TheVariants.{Up, Down}
use Rattle.lines.specs.declared.Place.{Place}
use Rattle.lines.specs.declared.Place.TheVariants.{Nowhere, OnLine}
use Rattle.schedule.specs.declared.Join.{Join}
use Rattle.schedule.specs.declared.Mode.{Mode}
use Rattle.switch.specs.declared.Outcome.{Outcome}
use Rattle.switch.specs.declared.SwitchDecline.{SwitchDecline}
use Rattle.switch.specs.declared.SwitchDecline.TheVariants.{LineAbove, BadUnits, ModeOpen, NoMode, NoRoom, LineTaken}
use Rattle.switch.specs.Meaning.{Meaning, is_open, dwell_of, row_of, no_grants}

-- the number and the place of each decline
abbrev pub number : SwitchDecline → ℕ
number (LineAbove l) = 4
number BadUnits = 5
number ModeOpen = 11
number NoMode = 12
number NoRoom = 13
number (LineTaken l) = 14

abbrev pub place : SwitchDecline → Place
place (LineAbove l) = OnLine l
place BadUnits = Nowhere
place ModeOpen = Nowhere
place NoMode = Nowhere
place NoRoom = Nowhere
place (LineTaken l) = OnLine l

abbrev pub with_mode : Option Mode → Meaning → Meaning
with_mode o m = record { lines = m.lines; room = m.room; clock = m.clock; carried = m.carried; mode = o; last = m.last }

abbrev pub mode : ℕ → List (Option Join) → Mode
mode d row = record { dwell = d; row = row }

abbrev pub open_decline : ℕ → Meaning → Option SwitchDecline
open_decline d m = cond (is_open m.mode) (Some ModeOpen) (cond (d == 0) (Some BadUnits) (cond (m.room == 0) (Some NoRoom) None))

abbrev pub opens : ℕ → Meaning → Meaning
opens d m = record { lines = m.lines; room = m.room - 1; clock = m.clock; carried = m.carried; mode = Some (mode d no_grants); last = m.last }

abbrev pub joined_to : ℕ → Option Join → Bool
joined_to j None = false
joined_to j (Some x) = x.down.0 == j

abbrev pub down_taken : ℕ → List (Option Join) → Bool
down_taken j row = list_any (joined_to j) row

-- which decline a grant meets in an open mode of dwell d that has the grants of row
abbrev pub row_decline : ℕ → ℕ → List (Option Join) → Uplink → Downlink → ℕ → Option SwitchDecline
row_decline n d row i j u =
    cond (nat_le n i.0) (Some (LineAbove (Up i)))
    (cond (nat_le n j.0) (Some (LineAbove (Down j)))
    (cond (u == 0 || nat_lt d u) (Some BadUnits)
    (cond (is_some (slice_index_or row i.0 None)) (Some (LineTaken (Up i)))
    (cond (down_taken j.0 row) (Some (LineTaken (Down j))) None))))

abbrev pub join : Downlink → ℕ → Join
join j u = record { down = j; units = u }

abbrev pub mode_grant_decline : ℕ → Option Mode → Uplink → Downlink → ℕ → Option SwitchDecline
mode_grant_decline n None i j u = Some NoMode
mode_grant_decline n (Some o) i j u = row_decline n o.dwell o.row i j u

abbrev pub grant_decline : Uplink → Downlink → ℕ → Meaning → Option SwitchDecline
grant_decline i j u m = mode_grant_decline m.lines m.mode i j u

abbrev pub grants : Uplink → Downlink → ℕ → Meaning → Meaning
grants i j u m = with_mode (Some (mode (dwell_of m.mode) (slice_set (row_of m.mode) i.0 (Some (join j u))))) m

abbrev pub closed_decline : Option Mode → Option SwitchDecline
closed_decline None = Some NoMode
closed_decline (Some o) = None

-- 12: run and void want an open mode
abbrev pub mode_decline : Meaning → Option SwitchDecline
mode_decline m = closed_decline m.mode

-- an uplink without a grant has no outcome, and a grant carries from 0 to its units
abbrev pub CarriesAt : Option Join → Option Outcome → Type 0
CarriesAt None None = Unit {0}
CarriesAt None (Some o) = ⊥
CarriesAt (Some x) None = ⊥
CarriesAt (Some x) (Some o) = (o.join ≡ x) × (o.carried ≤ x.units)

-- the units that an outcome carried to downlink j
abbrev pub carried_to : ℕ → Option Outcome → ℕ
carried_to j None = 0
carried_to j (Some o) = cond (o.join.down.0 == j) o.carried 0

abbrev pub runs : List (Option Outcome) → Meaning → Meaning
runs os m = record { lines = m.lines; room = m.room; clock = m.clock + dwell_of m.mode; carried = λ i j. m.carried i j + carried_to j (slice_index_or os i None); mode = None; last = Some os }

-- a run: the outcomes, and so the carried units, are the switch's choice
pub record Ran (m m' : Meaning) : Type 0 where
  pub outcomes : List (Option Outcome)
  pub sixteen : length outcomes ≡ 16
  pub carry : (i : ℕ) → i < 16 → CarriesAt (slice_index_or (row_of m.mode) i None) (slice_index_or outcomes i None)
  pub after : m' ≡ runs outcomes m

abbrev pub RunOr : Option Mode → Meaning → Meaning → Type 0
RunOr None m m' = m' ≡ m
RunOr (Some o) m m' = Ran m m'

abbrev pub RunTo : Meaning → Meaning → Type 0
RunTo m m' = RunOr m.mode m m'

abbrev pub voids : Meaning → Meaning
voids m = with_mode None m

-- the questions about lines; 4 where a line is one too many
abbrev pub line_decline : ℕ → Uplink → Downlink → Option SwitchDecline
line_decline n i j = cond (nat_le n i.0) (Some (LineAbove (Up i))) (cond (nat_le n j.0) (Some (LineAbove (Down j))) None)

abbrev pub carried_answer : Uplink → Downlink → Meaning → Result ℕ SwitchDecline
carried_answer i j m = told (line_decline m.lines i j) (m.carried i.0 j.0)

abbrev pub up_decline : ℕ → Uplink → Option SwitchDecline
up_decline n i = cond (nat_le n i.0) (Some (LineAbove (Up i))) None

abbrev pub dwell_answer : Option Mode → Option ℕ
dwell_answer None = None
dwell_answer (Some o) = Some o.dwell

abbrev pub granted_answer : Uplink → Meaning → Result (Option Join) SwitchDecline
granted_answer i m = told (up_decline m.lines i) (slice_index_or (row_of m.mode) i.0 None)

abbrev pub outcome_in : ℕ → Option (List (Option Outcome)) → Option Outcome
outcome_in i None = None
outcome_in i (Some os) = slice_index_or os i None

abbrev pub last_answer : Uplink → Meaning → Result (Option Outcome) SwitchDecline
last_answer i m = told (up_decline m.lines i) (outcome_in i.0 m.last)
