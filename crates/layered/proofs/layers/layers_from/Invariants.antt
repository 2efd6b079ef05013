use Rattle.augmenting.specs.Holders.{untried}
use Rattle.layered.proofs.Growth.{Growing}
use Rattle.layered.proofs.layers.layers_from.Given as goal

abbrev pub invariant-loop-steps : goal.invariant-loop-steps
invariant-loop-steps l = Growing l.rows l.pairing.holders l.roots l.steps l.layer l.reached l.seen

abbrev pub decreases-loop-steps : goal.decreases-loop-steps
decreases-loop-steps l = untried l.seen
