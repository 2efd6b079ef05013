-- Lists of calls on one session, and the law that holds of them. Assumes nothing.
use Rattle.std.specs.Prelude.{◌≡◌, ℕ, ◌+◌, ◌≤◌, List, [], ◌∷◌, ◌++◌, length as size}
use Rattle.lines.specs.Matrix.{Matrix, busiest, only, nothing}
use Rattle.schedule.specs.declared.Mode.{Mode}
use Rattle.schedule.specs.Modes.{span, Serves}
use Rattle.schedule.specs.OpenShop.{Shop, OpenShop, unfolded}
use Rattle.switch.specs.Meaning.{Meaning}
use Rattle.switch.specs.Calls.{voids}
use Rattle.records.specs.Reservations.{reservations}
use Rattle.law.specs.declared.call.Call.{Call}
use Rattle.law.specs.declared.call.Call.TheVariants.{Post, Withdraw, Batch, Plan, Step, Run, Drop, Owed, Busiest, ModesLeft, LengthLeft, Write}
use Rattle.law.specs.declared.answer.Answer.{Answer}
use Rattle.law.specs.declared.answer.Answer.TheVariants.{Accepted, Planned, Stepped, Ran, Units, Wrote, Declined}
use Rattle.law.specs.States.{State, Plan as Standing, idle, planned, modes_left}
use Rattle.law.specs.Runs.{ModeRun, short}
use Rattle.law.specs.Calls.{Maker, Does, reserved}

-- a call, its answer, the modes run in it, the buffer before and after it, and the state that it leaves
pub record Moment : Type 0 where
  pub call : Call
  pub answer : Answer
  pub runs : List ModeRun
  pub before : List ℕ
  pub after : List ℕ
  pub state : State

-- the state after these calls
abbrev pub ends : State → List Moment → State
ends s [] = s
ends s (m ∷ ms) = ends m.state ms

-- each call starts in the state that the one before left
abbrev pub Linked : Maker → State → List Moment → Type 0
Linked MadeBy s [] = Unit {0}
Linked MadeBy s (m ∷ ms) = Does MadeBy m.call m.answer m.runs m.before m.after s m.state × Linked MadeBy m.state ms

-- what a call posts, and what it withdraws, if it is accepted
abbrev pub brings : Call → Matrix
brings (Post i j u) = only i.0 j.0 u
brings (Withdraw i j u) = nothing
brings (Batch bytes) = reserved (reservations bytes.now)
brings Plan = nothing
brings Step = nothing
brings (Run b) = nothing
brings Drop = nothing
brings (Owed i j) = nothing
brings Busiest = nothing
brings ModesLeft = nothing
brings LengthLeft = nothing
brings Write = nothing

abbrev pub takes : Call → Matrix
takes (Post i j u) = nothing
takes (Withdraw i j u) = only i.0 j.0 u
takes (Batch bytes) = nothing
takes Plan = nothing
takes Step = nothing
takes (Run b) = nothing
takes Drop = nothing
takes (Owed i j) = nothing
takes Busiest = nothing
takes ModesLeft = nothing
takes LengthLeft = nothing
takes Write = nothing

abbrev pub if_accepted : Answer → Matrix → Matrix
if_accepted Accepted m = m
if_accepted (Planned x) m = nothing
if_accepted (Stepped x) m = nothing
if_accepted (Ran x) m = nothing
if_accepted (Units u) m = nothing
if_accepted (Wrote k) m = nothing
if_accepted (Declined d) m = nothing

-- the units of accepted posts and batches, and of accepted withdrawals
abbrev pub posted : List Moment → Matrix
posted [] a b = 0
posted (m ∷ ms) a b = if_accepted m.answer (brings m.call) a b + posted ms a b

abbrev pub withdrawn : List Moment → Matrix
withdrawn [] a b = 0
withdrawn (m ∷ ms) a b = if_accepted m.answer (takes m.call) a b + withdrawn ms a b

-- the units that were granted and not carried in all modes run
abbrev pub fell_short : List Moment → ℕ
fell_short [] = 0
fell_short (m ∷ ms) = short m.runs + fell_short ms

pub record Quiet (ms : List Moment) : Type 0 where
  pub nothing_posted : (a b : ℕ) → posted ms a b ≡ 0
  pub nothing_withdrawn : (a b : ℕ) → withdrawn ms a b ≡ 0

-- a session just made over a switch, on which a mode that was open is void
pub record Made (over : Meaning) (s : State) : Type 0 where
  pub lines : s.lines ≡ over.lines
  pub owed : (a b : ℕ) → s.owed a b ≡ 0
  pub plan : s.plan ≡ idle
  pub switch : s.switch ≡ voids over

-- what was posted since the making over a switch is withdrawn, carried since then, or owed
pub record Balanced (over : Meaning) (past : List Moment) (t : State) : Type 0 where
  pub risen : (a b : ℕ) → over.carried a b ≤ t.switch.carried a b
  pub balance : (a b : ℕ) → posted past a b + over.carried a b ≡ withdrawn past a b + t.switch.carried a b + t.owed a b

-- a plan of so many modes and this length, for what is owed on n lines: it is as long as the busiest line,
-- an open-shop schedule for exactly these units, and no schedule for them is shorter, be it of modes or any other
pub record Shortest (n : ℕ) (owed : Matrix) (plan : Standing) (modes length : ℕ) : Type 0 where
  pub stands : plan ≡ planned 0 (modes_left plan)
  pub many : modes ≡ size (modes_left plan)
  pub long : length ≡ span (modes_left plan)
  pub exact : length ≡ busiest n owed
  pub serves : Serves n (modes_left plan) owed
  pub shop : OpenShop n length (unfolded n (modes_left plan)) owed
  pub least : (other : List Mode) → Serves n other owed → length ≤ span other
  pub least_shop : (time : ℕ) (other : Shop) → OpenShop n time other owed → length ≤ time

-- from s to t, with no plan at s: the clock rises by what leaves the busiest line, and by no more than what fell short besides
pub record Paced (n : ℕ) (s : State) (between : List Moment) (t : State) : Type 0 where
  pub rises : s.switch.clock ≤ t.switch.clock
  pub low : busiest n s.owed + s.switch.clock ≤ t.switch.clock + busiest n t.owed
  pub high : t.switch.clock + busiest n t.owed ≤ s.switch.clock + busiest n s.owed + fell_short between

-- the law of a list of calls on a session made over a switch
pub record Law (over : Meaning) (start : State) (ms : List Moment) : Type 0 where
  pub balance : (past rest : List Moment) → ms ≡ past ++ rest → Balanced over past (ends start past)
  pub shortest : (past rest : List Moment) (m : Moment) (modes length : ℕ) → ms ≡ past ++ (m ∷ rest) → m.answer ≡ Planned (record { modes = modes; length = length }) → Shortest over.lines (ends start past).owed m.state.plan modes length
  pub pace : (past between rest : List Moment) → ms ≡ past ++ (between ++ rest) → (ends start past).plan ≡ idle → Quiet between → Paced over.lines (ends start past) between (ends (ends start past) between)

-- the schedules that may be made serve the matrix exactly, and are as long as its busiest line
pub record Makes (MadeBy : Maker) : Type 0 where
  pub serves : (n : ℕ) (owed : Matrix) (ms : List Mode) → MadeBy n owed ms → Serves n ms owed
  pub exact : (n : ℕ) (owed : Matrix) (ms : List Mode) → MadeBy n owed ms → span ms ≡ busiest n owed

-- the law of every list of calls on every session
abbrev pub EveryList : Maker → Type 0
EveryList MadeBy = (over : Meaning) (start : State) (ms : List Moment) → Made over start → Linked MadeBy start ms → Law over start ms
