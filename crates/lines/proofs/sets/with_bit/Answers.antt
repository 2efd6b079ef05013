use Rattle.std.proofs.Common.{ap, ◌∙◌}
use lib.Bits.{bit_or}
use Rattle.std.proofs.lemmas.Nat.{one_shl}
use Rattle.lines.specs.Sets.{has}
use Rattle.lines.proofs.Bits.{has_with_same, has_with_other}
use Rattle.lines.proofs.sets.with_bit.Goals as goal

pub returns : goal.returns
returns c =
    let e = one_shl c.args.line 16 c.requires in
    record {
      added = ap (λ n. has (bit_or c.args.set n) c.args.line) e ∙ has_with_same c.args.set c.args.line;
      others = λ k ne. ap (λ n. has (bit_or c.args.set n) k) e ∙ has_with_other c.args.set c.args.line k ne;
    }
