use Rattle.std.proofs.Common.{sym, ◌∙◌, arith}
use Rattle.std.proofs.lemmas.Bool.{le-ltb}
use Rattle.lines.proofs.Bits.{has_over}
use Rattle.lines.proofs.sets.has_line.Goals as goal

pub returns-else-line-lt16 : goal.returns-else-line-lt16
returns-else-line-lt16 c = le-ltb c.args.line 16 (omega arith) ∙ sym (has_over 16 c.args.set c.args.line (omega arith) (omega arith))
