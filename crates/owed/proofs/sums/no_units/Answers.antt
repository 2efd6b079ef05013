use Rattle.owed.proofs.Cells.{zeros}
use Rattle.owed.proofs.sums.no_units.Goals as goal

pub returns : goal.returns
returns c = zeros 16 16
