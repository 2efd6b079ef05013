use Rattle.layered.proofs.Steps.{Stepping}
use Rattle.layered.proofs.layers.step_on.Given as goal

abbrev pub invariant-loop-up : goal.invariant-loop-up
invariant-loop-up l = Stepping l.rows l.layer l.seen l.fn.steps l.steps l.next l.up
