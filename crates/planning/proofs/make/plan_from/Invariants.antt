use Rattle.std.proofs.Common.{◌≡◌, vec_items}
use Rattle.owed.specs.Calls.{lines_of, units_of}
use Rattle.planning.specs.Rests.{rest_lines}
use Rattle.planning.proofs.Going.{Going}
use Rattle.planning.proofs.make.plan_from.Given as goal

abbrev pub invariant-loop-rest : goal.invariant-loop-rest
invariant-loop-rest g l = (rest_lines l.rest ≡ lines_of l.owed) × Going g.E.Engine.may (units_of l.owed) l.rest (vec_items l.modes)

abbrev pub decreases-loop-rest : goal.decreases-loop-rest
decreases-loop-rest g l = l.rest.left
