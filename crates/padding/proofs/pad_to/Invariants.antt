use Rattle.lines.specs.Matrix.{cells}
use Rattle.owed.specs.Calls.{lines_of, units_of}
use Rattle.padding.specs.Padding.{listed}
use Rattle.padding.proofs.Visits.{Visited}
use Rattle.padding.proofs.pad_to.Given as goal

abbrev pub invariant-loop-i : goal.invariant-loop-i
invariant-loop-i l = Visited (lines_of l.owed) l.b (units_of l.owed) (cells l.row-items) (listed l.lacks) l.i
