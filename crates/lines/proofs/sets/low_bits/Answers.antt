use Rattle.std.proofs.Common.{◌-◌, ap, ◌∙◌, arith}
use Rattle.std.proofs.lemmas.Nat.{one_shl}
use Rattle.lines.specs.Sets.{has}
use Rattle.lines.proofs.Bits.{has_ones}
use Rattle.lines.proofs.sets.low_bits.Goals as goal

pub returns : goal.returns
returns c = λ k. ap (λ x. has (x - 1) k) (one_shl c.args.n 32 (omega (arith, c.requires))) ∙ has_ones c.args.n k
