use Rattle.lines.proofs.Bits.{has_test}
use Rattle.lines.proofs.sets.bit_of.Goals as goal

pub returns : goal.returns
returns c = has_test c.args.set c.args.line
