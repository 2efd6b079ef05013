use Rattle.std.proofs.Common.{arith}
use Rattle.planning.specs.Rests.{rest_lines, rest_padded}
use Rattle.planning.proofs.Rounds.{usable, asked_peel, never_short}
use Rattle.planning.proofs.rest.Rest.ask.Goals as goal

pub unreachable-requires : goal.unreachable-requires
unreachable-requires g c =
    let r = c.args.self.now in
    let h = rw (c.count.ensures, c.support_of.ensures, c.in-Ok-Witness.field-0-is) at c.in-Ok-Witness.ensures.1 in
    never_short g.E.Engine.may (rest_lines r) r.left (rest_padded r) _ g.met.E.Engine.right (omega arith) (omega arith) r.even h

pub returns : goal.returns
returns g c =
    let r = c.args.self.now in
    let given = rw (c.count.ensures, c.support_of.ensures, c.in-Ok-Matching.field-0-is) at c.in-Ok-Matching.ensures.1 in
    record {
      asked = given;
      usable = usable (rest_lines r) r.left (rest_padded r) c.in-Ok-Matching.mates (omega arith) r.even
          (asked_peel g.E.Engine.may (rest_lines r) (rest_padded r) c.in-Ok-Matching.mates g.met.E.Engine.right (omega arith) (omega arith) given);
    }
