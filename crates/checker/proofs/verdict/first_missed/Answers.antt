use Rattle.lines.specs.Matrix.{cells}
use Rattle.owed.specs.Calls.{lines_of, units_of}
use Rattle.checker.proofs.Judged.{compared}
use Rattle.checker.proofs.verdict.first_missed.Goals as goal

pub returns : goal.returns
returns c =
    compared (lines_of c.args.owed.now) (units_of c.args.owed.now) c.args.file.now c.args.tally.now.length (cells c.args.tally.now.totals)
    c.requires.sized c.requires.tallied c.first_difference.result c.first_difference.ensures
