use Rattle.std.proofs.Common.{ap, ◌∙◌}
use Rattle.lines.specs.Sets.{has}
use Rattle.lines.proofs.Bits.{has_zero}
use Rattle.lines.proofs.sets.lowest_line.Goals as goal

pub returns-then-set-eq0 : goal.returns-then-set-eq0
returns-then-set-eq0 c = λ k. ap (λ x. has x k) c.if-set-eq0.true ∙ has_zero k
