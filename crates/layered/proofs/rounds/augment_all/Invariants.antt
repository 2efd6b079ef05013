use Rattle.layered.proofs.Gains.{Turn}
use Rattle.layered.proofs.rounds.augment_all.Given as goal

abbrev pub invariant-loop-up : goal.invariant-loop-up
invariant-loop-up l = Turn l.steps l.initial.pairing.holders l.pairing.holders l.roots l.up l.tried
