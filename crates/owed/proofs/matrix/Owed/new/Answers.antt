use Rattle.std.proofs.Common.{arith}
use Rattle.owed.proofs.Busiest.{zero_busiest}
use Rattle.owed.proofs.matrix.Owed.new.Goals as goal

pub invariant_of-result : goal.invariant_of-result
invariant_of-result c = record {
  limited = omega (arith, zero_busiest c.in_ok-lines.lines.count _ c.no_units.ensures);
  blank = λ i j _. c.no_units.ensures i j;
}
