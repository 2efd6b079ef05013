use Rattle.layered.specs.Layers.{members}
use Rattle.layered.proofs.Rests.{Tally}
use Rattle.layered.proofs.rounds.pair_all.Given as goal

abbrev pub invariant-loop-cut : goal.invariant-loop-cut
invariant-loop-cut l = Tally l.n l.cut l.pairing.holders l.idle

abbrev pub decreases-loop-cut : goal.decreases-loop-cut
decreases-loop-cut l = members l.idle
