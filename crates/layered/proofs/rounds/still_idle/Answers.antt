use Rattle.std.proofs.Common.{arith}
use Rattle.lines.proofs.Bits.{has_below}
use Rattle.layered.proofs.Rests.{left_over}
use Rattle.layered.proofs.rounds.still_idle.Goals as goal

pub returns : goal.returns
returns c =
    left_over c.args.pairing.now.holders c.args.ups c.lines_below.result c.holders_of.result c.without.result c.lines_below.ensures c.holders_of.ensures.from c.holders_of.ensures.all
    c.without.ensures (λ u h. has_below 16 c.args.ups u (omega arith) h)
