-- What it is to run a whole mode: it is opened, its grants are made by rising uplink, and it is run. Assumes nothing.
use Rattle.std.specs.Prelude.{◌≡◌, ℕ, zero, suc, ◌+◌, ◌-◌, ◌<◌, ◌≤◌, true, cond, List, [], ◌∷◌, length, IfErr, Some, None, Ok, Err, Option, Result, ◌==◌, nat_le, slice_index_or}
use Rattle.lines.specs.Matrix.{uplink}
use Rattle.lines.specs.Verdicts.{or_else, answered}
use Rattle.schedule.specs.declared.Join.{Join}
use Rattle.schedule.specs.declared.Mode.{Mode}
use Rattle.schedule.specs.Modes.{grant_of, Sound}
use Rattle.switch.specs.declared.Outcome.{Outcome}
use Rattle.switch.specs.declared.SwitchDecline.{SwitchDecline}
use Rattle.switch.specs.declared.SwitchDecline.TheVariants.{ModeOpen, NoRoom}
use Rattle.switch.specs.Meaning.{Meaning, is_open, row_of, no_grants}
use Rattle.switch.specs.Calls.{mode, with_mode, row_decline, open_decline, opens, voids, CarriesAt, carried_to, runs, outcome_in}
use Rattle.driver.specs.declared.DriverDecline.{DriverDecline}
use Rattle.driver.specs.Answers.{round}

-- the first i entries of a row, and no grant after them
abbrev pub front : ℕ → List (Option Join) → List (Option Join)
front i [] = []
front zero (x ∷ row) = None ∷ front zero row
front (suc i) (x ∷ row) = x ∷ front i row

-- the decline that the entry of uplink i meets in an open mode of dwell d that has the grants of row
abbrev pub entry_decline : ℕ → ℕ → List (Option Join) → ℕ → Option Join → Option SwitchDecline
entry_decline n d row i None = None
entry_decline n d row i (Some x) = row_decline n d row (uplink i) x.down x.units

-- the first decline among the grants of the uplinks below k, each made after those before it
unfoldable pub grants_decline : ℕ → Mode → ℕ → Option SwitchDecline
grants_decline n m zero = None
grants_decline n m (suc k) = or_else (grants_decline n m k) (entry_decline n m.dwell (front k m.row) k (grant_of m k))

-- all grants of a mode
abbrev pub row_declined : ℕ → Mode → Option SwitchDecline
row_declined n m = grants_decline n m 16

-- a mode of dwell d is open, without grants
abbrev pub Fresh : ℕ → Meaning → Type 0
Fresh d m = m.mode ≡ Some (mode d no_grants)

-- a mode is open whose grants are all of lines that the switch has
pub record Ready (m : Meaning) : Type 0 where
  pub stands : is_open m.mode ≡ true
  pub inside : (i : ℕ) → m.lines ≤ i → slice_index_or (row_of m.mode) i None ≡ None

-- the mode that was opened has all grants of x, or it is still open with some of them
abbrev pub Granted : Option SwitchDecline → Mode → Meaning → Meaning → Type 0
Granted None x m m' = (m' ≡ with_mode (Some x) m) × Ready m'
Granted (Some e) x m m' = (is_open m'.mode ≡ true) × (voids m' ≡ voids m)

-- the grants of a row were made in a fresh mode, up to one that is declined; none is where the mode keeps the rules
pub record GrantsRow (x : Mode) (m m' : Meaning) (r : Result Unit DriverDecline) : Type 0 where
  pub answer : r ≡ answered (round (row_declined m.lines x))
  pub sound : IfErr r (λ _. Sound m.lines x → ⊥)
  pub after : Granted (row_declined m.lines x) x m m'

-- what uplink i did in the last run, as far as the switch may be asked
abbrev pub seen : Meaning → ℕ → Option Outcome
seen m i = cond (nat_le m.lines i) None (outcome_in i m.last)

-- a run with these outcomes
pub record RanWith (os : List (Option Outcome)) (m m' : Meaning) : Type 0 where
  pub sixteen : length os ≡ 16
  pub carry : (i : ℕ) → i < 16 → CarriesAt (slice_index_or (row_of m.mode) i None) (slice_index_or os i None)
  pub after : m' ≡ runs os m

-- what a mode leaves that ran with these outcomes: room for one mode less, the dwell on the clock, and what was carried
abbrev pub carries : Mode → List (Option Outcome) → Meaning → Meaning
carries x os m = record { lines = m.lines; room = m.room - 1; clock = m.clock + x.dwell; carried = λ i j. m.carried i j + carried_to j (slice_index_or os i None); mode = None; last = Some os }

-- the mode ran: the outcomes are the switch's choice, within its grants, and the answer tells them
pub record Carried (x : Mode) (m m' : Meaning) (r : Result (List (Option Outcome)) DriverDecline) : Type 0 where
  pub outcomes : List (Option Outcome)
  pub sixteen : length outcomes ≡ 16
  pub carry : (i : ℕ) → i < 16 → CarriesAt (grant_of x i) (slice_index_or outcomes i None)
  pub after : m' ≡ carries x outcomes m
  pub answer : r ≡ Ok outcomes

-- the call was declined, and left this
pub record Declined (e : SwitchDecline) (left m' : Meaning) (r : Result (List (Option Outcome)) DriverDecline) : Type 0 where
  pub after : m' ≡ left
  pub answer : r ≡ Err (record { «switch» = e })

-- a mode that does not open changes nothing; one of which a grant is declined is voided, and has cost its room
abbrev pub WholeOr : Option SwitchDecline → Option SwitchDecline → Mode → Meaning → Meaning → Result (List (Option Outcome)) DriverDecline → Type 0
WholeOr (Some e) g x m m' r = Declined e m m' r
WholeOr None (Some e) x m m' r = Declined e (voids (opens x.dwell m)) m' r
WholeOr None None x m m' r = Carried x m m' r

abbrev pub Whole : Mode → Meaning → Meaning → Result (List (Option Outcome)) DriverDecline → Type 0
Whole x m m' r = WholeOr (open_decline x.dwell m) (row_declined m.lines x) x m m' r

-- what stands against a mode that keeps the rules: 11, then 13
abbrev pub start_decline : Meaning → Option SwitchDecline
start_decline m = cond (is_open m.mode) (Some ModeOpen) (cond (m.room == 0) (Some NoRoom) None)

abbrev pub StartOr : Option SwitchDecline → Mode → Meaning → Meaning → Result (List (Option Outcome)) DriverDecline → Type 0
StartOr (Some e) x m m' r = Declined e m m' r
StartOr None x m m' r = Carried x m m' r

-- a mode that keeps the rules is declined by the switch's state alone, which then stays, and runs otherwise
abbrev pub Runs : Mode → Meaning → Meaning → Result (List (Option Outcome)) DriverDecline → Type 0
Runs x m m' r = StartOr (start_decline m) x m m' r
