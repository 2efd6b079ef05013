-- A call on a session that has been given. Assumes nothing.
use Rattle.std.specs.Prelude.{ℕ, List}
use Rattle.law.specs.declared.call.Call.{Call}
use Rattle.law.specs.declared.answer.Answer.{Answer}
use Rattle.law.specs.States.{State}
use Rattle.law.specs.Runs.{ModeRun}
use Rattle.law.specs.Calls.{Maker, Does}

-- the call did what is said of it, with some modes run
pub record Acted (M : Maker) (c : Call) (r : Answer) (before after : List ℕ) (s t : State) : Type 0 where
  pub runs : List ModeRun
  pub does : Does M c r runs before after s t
