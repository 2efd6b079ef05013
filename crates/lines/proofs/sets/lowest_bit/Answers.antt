use Rattle.std.proofs.Common.{arith}
use borrow.Author.Numbers.{trailing_lt}
use Rattle.lines.proofs.Bits.{trailing_first}
use Rattle.lines.proofs.sets.lowest_bit.Goals as goal

pub returns : goal.returns
returns c =
    let f = trailing_first 16 c.args.set c.requires (omega arith) in
    (trailing_lt 16 c.args.set c.requires (omega arith), f.0, f.1)
