-- What stands against each call on a session, in the order of the rules. Assumes nothing.
use Rattle.std.specs.Prelude.{ℕ, ◌+◌, ◌*◌, ◌%◌, cond, List, [], ◌∷◌, length, Some, None, Option, ◌==◌, nat_lt}
use Rattle.lines.specs.Matrix.{Matrix, busiest}
use Rattle.lines.specs.Verdicts.{or_else}
use Rattle.owed.specs.declared.decline.OwedDecline.{OwedDecline}
use Rattle.owed.specs.Calls.{line_decline, add_decline, take_decline, added}
use Rattle.switch.specs.declared.SwitchDecline.{SwitchDecline}
use Rattle.switch.specs.Meaning.{Meaning}
use Rattle.records.specs.declared.reservation.Reservation.{Reservation}
use Rattle.records.specs.Reservations.{reservations}
use Rattle.steps.specs.WholeMode.{start_decline}
use Rattle.law.specs.declared.call.Call.{Call}
use Rattle.law.specs.declared.call.Call.TheVariants.{Post, Withdraw, Batch, Plan, Step, Run, Drop, Owed, Busiest, ModesLeft, LengthLeft, Write}
use Rattle.law.specs.declared.decline.SessionDecline.{SessionDecline}
use Rattle.law.specs.declared.decline.SessionDecline.TheVariants.{PlanStands, NoPlan, NothingOwed, NoBudget, Booking, PartRecord, Record, Mode, ShortBuffer}
use Rattle.law.specs.States.{State, Plan as Standing, idle, planned, modes_left}

-- the bytes of a reservation, and of a mode
abbrev pub reservation_size : ℕ
reservation_size = 6

abbrev pub mode_size : ℕ
mode_size = 52

-- 6: a plan stands
abbrev pub unless_planned : Standing → Option SessionDecline → Option SessionDecline
unless_planned idle next = next
unless_planned (planned place ms) next = Some PlanStands

-- 9: no plan stands
abbrev pub if_planned : Standing → Option SessionDecline → Option SessionDecline
if_planned idle next = Some NoPlan
if_planned (planned place ms) next = next

-- 4, 5, 7, 8: the owed matrix declines
abbrev pub booking : Option OwedDecline → Option SessionDecline
booking None = None
booking (Some e) = Some (Booking e)

-- the same at record k of a batch
abbrev pub of_record : ℕ → Reservation → Option OwedDecline → Option SessionDecline
of_record k x None = None
of_record k x (Some e) = Some (Record k x.station e)

-- the records of a batch from number k on, each posted after those before it
abbrev pub records_decline : ℕ → ℕ → List Reservation → Matrix → Option SessionDecline
records_decline n k [] m = None
records_decline n k (x ∷ xs) m =
    or_else (of_record k x (add_decline n m x.up x.down x.units))
    (records_decline n (k + 1) xs (added m x.up.0 x.down.0 x.units))

-- 15: not whole records
abbrev pub batch_decline : ℕ → Matrix → List ℕ → Option SessionDecline
batch_decline n m bytes = cond (length bytes % reservation_size == 0) (records_decline n 0 (reservations bytes) m) (Some PartRecord)

-- 11, 13: the switch does not open the mode of this number
abbrev pub of_mode : ℕ → Option SwitchDecline → Option SessionDecline
of_mode k None = None
of_mode k (Some e) = Some (Mode k (record { «switch» = e }))

-- what stands against running the next mode
abbrev pub next_decline : Standing → Meaning → Option SessionDecline
next_decline idle m = Some NoPlan
next_decline (planned place ms) m = of_mode place (start_decline m)

-- what stands against a call that is given a buffer of so many bytes
abbrev pub refusal : Call → ℕ → State → Option SessionDecline
refusal (Post i j u) size s = unless_planned s.plan (booking (add_decline s.lines s.owed i j u))
refusal (Withdraw i j u) size s = unless_planned s.plan (booking (take_decline s.lines s.owed i j u))
refusal (Batch bytes) size s = unless_planned s.plan (batch_decline s.lines s.owed bytes.now)
refusal Plan size s = unless_planned s.plan (cond (busiest s.lines s.owed == 0) (Some NothingOwed) None)
refusal Step size s = next_decline s.plan s.switch
refusal (Run b) size s = if_planned s.plan (cond (b == 0) (Some NoBudget) (next_decline s.plan s.switch))
refusal Drop size s = if_planned s.plan None
refusal (Owed i j) size s = booking (line_decline s.lines i j)
refusal Busiest size s = None
refusal ModesLeft size s = None
refusal LengthLeft size s = None
refusal Write size s = if_planned s.plan (cond (nat_lt size (mode_size * length (modes_left s.plan))) (Some ShortBuffer) None)
