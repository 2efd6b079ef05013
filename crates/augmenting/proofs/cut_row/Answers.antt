use Rattle.std.proofs.Common.{arith}
use Rattle.augmenting.proofs.Cuts.{row_kept, row_gone}
use Rattle.augmenting.proofs.cut_row.Goals as goal

pub returns-then-up-n : goal.returns-then-up-n
returns-then-up-n c = λ j. row_kept c.args.n c.lines_below.result c.args.row c.args.up j (omega arith) (omega arith) c.lines_below.ensures

pub returns-else-up-n : goal.returns-else-up-n
returns-else-up-n c = λ j. row_gone c.args.n c.args.row c.args.up j (omega arith)
