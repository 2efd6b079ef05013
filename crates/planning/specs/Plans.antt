-- A plan as callers see it, and why none is made. Assumes nothing.
use Rattle.std.specs.Prelude.{◌≡◌, ℕ, ◌<◌, List, vec_items}
use Rattle.lines.specs.declared.Place.{Place}
use Rattle.lines.specs.declared.Place.TheVariants.{Nowhere}
use Rattle.schedule.specs.declared.Mode.{Mode}
use Rattle.planning.specs.declared.plan.Plan.{Plan}
use Rattle.planning.specs.declared.decline.PlanDecline.{PlanDecline}
use Rattle.planning.specs.declared.decline.PlanDecline.TheVariants.{NothingOwed, NoMemory}

-- the lines that a plan was made for
abbrev pub plan_lines : Plan → ℕ
plan_lines p = p.lines.count

-- its modes, in the order in which they run
abbrev pub plan_modes : Plan → List Mode
plan_modes p = vec_items p.modes

-- the number of each decline; want of memory is 0, since no rule has a number for it
abbrev pub number : PlanDecline → ℕ
number NothingOwed = 10
number NoMemory = 0

abbrev pub place : PlanDecline → Place
place NothingOwed = Nowhere
place NoMemory = Nowhere

-- when a decline is given, b being the busiest line
abbrev pub Stands : ℕ → PlanDecline → Type 0
Stands b NothingOwed = b ≡ 0
Stands b NoMemory = 0 < b
