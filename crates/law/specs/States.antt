-- The state of a session over a switch. Assumes nothing.
use Rattle.std.specs.Prelude.{ℕ, ◌+◌, Bool, true, false, List, [], ◌∷◌}
use Rattle.lines.specs.Matrix.{Matrix}
use Rattle.schedule.specs.declared.Mode.{Mode}
use Rattle.switch.specs.Meaning.{Meaning}

-- no plan, or the number of the next mode with the modes left
pub data Plan : Type 0 where
  idle : Plan
  planned : ℕ → List Mode → Plan

-- the lines that units are owed on, what is owed, the plan, and what the switch means
pub record State : Type 0 where
  pub lines : ℕ
  pub owed : Matrix
  pub plan : Plan
  pub switch : Meaning

abbrev pub stands : Plan → Bool
stands idle = false
stands (planned place ms) = true

abbrev pub modes_left : Plan → List Mode
modes_left idle = []
modes_left (planned place ms) = ms

-- the plan after the mode of a number has been run, with these modes left: none stands after the last mode
abbrev pub onward : ℕ → List Mode → Plan
onward place [] = idle
onward place (m ∷ ms) = planned (place + 1) (m ∷ ms)

abbrev pub with_plan : Plan → State → State
with_plan p s = record { lines = s.lines; owed = s.owed; plan = p; switch = s.switch }
