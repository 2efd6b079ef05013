-- The modes left of a session's plan, and the plan that stands on a switch. Assumes nothing.
use Rattle.std.specs.Prelude.{ℕ, ◌+◌, ◌-◌, cond, List, [], length, drop, ◌==◌, nat_lt}
use Rattle.schedule.specs.declared.Mode.{Mode}
use Rattle.planning.specs.Plans.{plan_lines, plan_modes}
use Rattle.law.specs.States.{Plan, idle, planned}
use Rattle.session.specs.declared.state.State.{State}
use Rattle.session.specs.declared.state.State.TheVariants.{Idle, Planned}

-- the modes left and their length, the place of the next mode and the number of modes, of an idle session too
abbrev pub left_of : State → List Mode
left_of Idle = []
left_of (Planned p place left) = drop place (plan_modes p)

abbrev pub length_of : State → ℕ
length_of Idle = 0
length_of (Planned p place left) = left

abbrev pub place_of : State → ℕ
place_of Idle = 0
place_of (Planned p place left) = place

abbrev pub count_of : State → ℕ
count_of Idle = 1
count_of (Planned p place left) = length (plan_modes p)

-- the lines that a plan was made for; an idle session is for any
abbrev pub lines_for : ℕ → State → ℕ
lines_for n Idle = n
lines_for n (Planned p place left) = plan_lines p

-- the plan as it stands, and as it stands on a switch of n lines where units are owed on l
abbrev pub standing : State → Plan
standing Idle = idle
standing (Planned p place left) = planned place (drop place (plan_modes p))

abbrev pub standing_on : ℕ → ℕ → State → Plan
standing_on n l Idle = idle
standing_on n l (Planned p place left) = cond (n == l) (planned place (drop place (plan_modes p))) idle

-- after the next mode, of dwell d, no plan or the plan at its next place
abbrev pub onward_of : ℕ → State → State
onward_of d Idle = Idle
onward_of d (Planned p place left) = cond (nat_lt (place + 1) (length (plan_modes p))) (Planned p (place + 1) (left - d)) Idle
