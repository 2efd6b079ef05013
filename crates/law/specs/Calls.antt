-- What each call on a session answers and does. Assumes nothing.
use Rattle.std.specs.Prelude.{◌≡◌, ℕ, ◌+◌, ◌*◌, ◌≤◌, cond, List, [], ◌∷◌, ◌++◌, length, drop, Some, None, ◌==◌, nat_lt}
use Rattle.lines.specs.Matrix.{Matrix, busiest, only, nothing}
use Rattle.schedule.specs.declared.Mode.{Mode}
use Rattle.schedule.specs.Modes.{span}
use Rattle.records.specs.declared.reservation.Reservation.{Reservation}
use Rattle.records.specs.Reservations.{reservations}
use Rattle.plan_files.specs.Encoding.{encoded}
use Rattle.law.specs.declared.call.Call.{Call}
use Rattle.law.specs.declared.call.Call.TheVariants.{Post, Withdraw, Batch, Plan, Step, Run, Drop, Owed, Busiest, ModesLeft, LengthLeft, Write}
use Rattle.runs.specs.declared.Cause.{Cause}
use Rattle.runs.specs.declared.Cause.TheVariants.{End, Short, Stop, Budget}
use Rattle.law.specs.declared.answer.Answer.{Answer}
use Rattle.law.specs.declared.answer.Answer.TheVariants.{Accepted, Planned, Stepped, Ran, Units, Wrote, Declined}
use Rattle.law.specs.declared.decline.SessionDecline.{SessionDecline}
use Rattle.law.specs.declared.decline.SessionDecline.TheVariants.{NoMemory}
use Rattle.law.specs.States.{State, idle, planned, stands, modes_left, with_plan}
use Rattle.law.specs.Runs.{ModeRun, Advanced, Chain, last, missed, short, shortfall}
use Rattle.law.specs.Refusals.{mode_size, next_decline, refusal}

-- which schedules may be made for a matrix on n lines
abbrev pub Maker : Type 1
Maker = ℕ → Matrix → List Mode → Type 0

-- the units that reservations ask for
abbrev pub reserved : List Reservation → Matrix
reserved [] a b = 0
reserved (x ∷ xs) a b = only x.up.0 x.down.0 x.units a b + reserved xs a b

-- the call runs no mode, and leaves the buffer and all else as it was
pub record Still (rs : List ModeRun) (before after : List ℕ) (s t : State) : Type 0 where
  pub runs : rs ≡ []
  pub buffer : after ≡ before
  pub state : t ≡ s

-- the owed units rise by more and fall by less, and nothing else changes
pub record Books (more less : Matrix) (r : Answer) (rs : List ModeRun) (before after : List ℕ) (s t : State) : Type 0 where
  pub answer : r ≡ Accepted
  pub runs : rs ≡ []
  pub buffer : after ≡ before
  pub lines : t.lines ≡ s.lines
  pub owed : (a b : ℕ) → t.owed a b + less a b ≡ s.owed a b + more a b
  pub plan : t.plan ≡ s.plan
  pub switch : t.switch ≡ s.switch

-- a schedule that may be made for what is owed becomes the plan
pub record Plans (MadeBy : Maker) (r : Answer) (rs : List ModeRun) (before after : List ℕ) (s t : State) : Type 0 where
  pub modes : List Mode
  pub made : MadeBy s.lines s.owed modes
  pub answer : r ≡ Planned (record { modes = length modes; length = span modes })
  pub runs : rs ≡ []
  pub buffer : after ≡ before
  pub state : t ≡ with_plan (planned 0 modes) s

-- the next mode is run
pub record Steps (r : Answer) (rs : List ModeRun) (before after : List ℕ) (s t : State) : Type 0 where
  pub run : ModeRun
  pub advanced : Advanced s run
  pub answer : r ≡ Stepped (record { number = advanced.place; dwell = run.mode.dwell; short = shortfall run.outcomes })
  pub runs : rs ≡ run ∷ []
  pub buffer : after ≡ before
  pub state : t ≡ run.after

-- only the last of these runs may fall short
abbrev pub Whole : ModeRun → List ModeRun → Type 0
Whole r [] = Unit {0}
Whole r (x ∷ xs) = missed r.outcomes ≡ 0

abbrev pub LastShort : List ModeRun → Type 0
LastShort [] = Unit {0}
LastShort (r ∷ rs) = Whole r rs × LastShort rs

-- why a run of up to b modes stops after these, in the state t
abbrev pub why : ℕ → List ModeRun → State → Cause
why b rs t = cond (stands t.plan) (cond (short rs == 0) (cond (nat_lt (length rs) b) Stop Budget) Short) End

-- modes are run one after the other, up to b of them, until the plan ends, one falls short, or the next one is declined
pub record Continues (b : ℕ) (r : Answer) (rs : List ModeRun) (before after : List ℕ) (s t : State) : Type 0 where
  pub chain : Chain s rs
  pub some : 1 ≤ length rs
  pub few : length rs ≤ b
  pub one_short : LastShort rs
  pub stopped : why b rs t ≡ Stop → (d : SessionDecline) × (next_decline t.plan t.switch ≡ Some d)
  pub answer : r ≡ Ran (record { count = length rs; cause = why b rs t })
  pub buffer : after ≡ before
  pub state : t ≡ last s rs

-- the plan ends, and what is owed stays
pub record Drops (r : Answer) (rs : List ModeRun) (before after : List ℕ) (s t : State) : Type 0 where
  pub answer : r ≡ Accepted
  pub runs : rs ≡ []
  pub buffer : after ≡ before
  pub state : t ≡ with_plan idle s

-- a question is answered by the number u
pub record Tells (u : ℕ) (r : Answer) (rs : List ModeRun) (before after : List ℕ) (s t : State) : Type 0 where
  pub answer : r ≡ Units u
  pub still : Still rs before after s t

-- the modes left stand at the front of the buffer, and the bytes after them keep their content
pub record Writes (r : Answer) (rs : List ModeRun) (before after : List ℕ) (s t : State) : Type 0 where
  pub answer : r ≡ Wrote (mode_size * length (modes_left s.plan))
  pub runs : rs ≡ []
  pub buffer : after ≡ encoded s.lines (modes_left s.plan) ++ drop (mode_size * length (modes_left s.plan)) before
  pub state : t ≡ s

-- what a call that is not declined answers and does: with the modes that the switch ran, from a buffer and a state to those after it
abbrev pub Yields : Maker → Call → Answer → List ModeRun → List ℕ → List ℕ → State → State → Type 0
Yields MadeBy (Post i j u) r rs before after s t = Books (only i.0 j.0 u) nothing r rs before after s t
Yields MadeBy (Withdraw i j u) r rs before after s t = Books nothing (only i.0 j.0 u) r rs before after s t
Yields MadeBy (Batch bytes) r rs before after s t = Books (reserved (reservations bytes.now)) nothing r rs before after s t
Yields MadeBy Plan r rs before after s t = Plans MadeBy r rs before after s t
Yields MadeBy Step r rs before after s t = Steps r rs before after s t
Yields MadeBy (Run b) r rs before after s t = Continues b r rs before after s t
Yields MadeBy Drop r rs before after s t = Drops r rs before after s t
Yields MadeBy (Owed i j) r rs before after s t = Tells (s.owed i.0 j.0) r rs before after s t
Yields MadeBy Busiest r rs before after s t = Tells (busiest s.lines s.owed) r rs before after s t
Yields MadeBy ModesLeft r rs before after s t = Tells (length (modes_left s.plan)) r rs before after s t
Yields MadeBy LengthLeft r rs before after s t = Tells (span (modes_left s.plan)) r rs before after s t
Yields MadeBy Write r rs before after s t = Writes r rs before after s t

-- a call is declined exactly where something stands against it, for that reason, and then changes nothing;
-- else it does what it is for, but that a plan may want memory: no rule settles when
pub data Does (MadeBy : Maker) (c : Call) (r : Answer) (rs : List ModeRun) (before after : List ℕ) (s t : State) : Type 0 where
  does : refusal c (length before) s ≡ None → Yields MadeBy c r rs before after s t → Does MadeBy c r rs before after s t
  does_not : (d : SessionDecline) → refusal c (length before) s ≡ Some d → r ≡ Declined d → Still rs before after s t → Does MadeBy c r rs before after s t
  wants_memory : refusal c (length before) s ≡ None → c ≡ Plan → r ≡ Declined NoMemory → Still rs before after s t → Does MadeBy c r rs before after s t
