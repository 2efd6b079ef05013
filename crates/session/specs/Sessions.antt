-- The state that a session shows, and what its calls do. Assumes nothing.
use Rattle.std.specs.Prelude.{ℕ, ◌<◌, ◌≤◌, List, Ok, Err, Result}
use Rattle.lines.specs.Matrix.{Matrix, busiest}
use Rattle.schedule.specs.declared.Mode.{Mode}
use Rattle.schedule.specs.Modes.{longest_dwell}
use Rattle.owed.specs.Calls.{lines_of, units_of}
use Rattle.switch.specs.Meaning.{Meaning, most_lines}
use Rattle.matching.specs.Answers.{May}
use Rattle.planning.specs.declared.decline.PlanDecline.{PlanDecline}
use Rattle.planning.specs.declared.decline.PlanDecline.TheVariants.{NothingOwed, NoMemory}
use Rattle.planning.specs.Making.{MadeBy}
use Rattle.law.specs.declared.call.Call.{Call}
use Rattle.law.specs.declared.answer.Answer.{Answer}
use Rattle.law.specs.declared.answer.Answer.TheVariants.{Accepted, Declined}
use Rattle.law.specs.declared.decline.SessionDecline.{SessionDecline}
use Rattle.law.specs.declared.decline.SessionDecline.TheVariants.{NothingOwed as NothingToPlan, NoMemory as NoRoom}
use Rattle.law.specs.States.{State}
use Rattle.law.specs.Runs.{ModeRun}
use Rattle.law.specs.Calls.{Maker, Does}
use Rattle.session.specs.declared.state.Session.{Session}
use Rattle.session.specs.Standing.{standing_on}

-- what a session shows over a switch of this meaning
abbrev pub state_of : {S E : Type 0} → (S → Meaning) → Session S E → State
state_of meaning s = record {
  lines = lines_of s.owed;
  owed = units_of s.owed;
  plan = standing_on (meaning s.«switch»).lines (lines_of s.owed) s.state;
  «switch» = meaning s.«switch»;
}

-- the plans that may be made: on 1 to 16 lines, for some units that a dwell can hold, of the engine's matchings
pub record PlannedBy (may : May) (n : ℕ) (owed : Matrix) (ms : List Mode) : Type 0 where
  pub some_line : 1 ≤ n
  pub few_lines : n ≤ most_lines
  pub owes : 0 < busiest n owed
  pub short : busiest n owed ≤ longest_dwell
  pub made : MadeBy may n owed ms

-- a call that is given no buffer does what is said of it, whatever buffer stands beside it
pub record Acts (M : Maker) (c : Call) (r : Answer) (s t : State) : Type 0 where
  pub runs : List ModeRun
  pub does : (buffer : List ℕ) → Does M c r runs buffer buffer s t

-- what is answered for a result
abbrev pub answer_of : {A : Type 0} → (A → Answer) → Result A SessionDecline → Answer
answer_of f (Ok x) = f x
answer_of f (Err d) = Declined d

abbrev pub accepted : Result Unit SessionDecline → Answer
accepted r = answer_of (λ x. Accepted) r

-- why a session makes no plan
abbrev pub plan_declined : PlanDecline → SessionDecline
plan_declined NothingOwed = NothingToPlan
plan_declined NoMemory = NoRoom
