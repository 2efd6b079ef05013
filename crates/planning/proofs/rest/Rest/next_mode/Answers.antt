use Rattle.std.proofs.Common.{refl, arith}
use Rattle.lines.specs.Matrix.{cells}
use Rattle.matching.specs.Answers.{mate_of}
use Rattle.planning.specs.Rests.{rest_lines, rest_padded}
use Rattle.planning.proofs.Rounds.{smallest_le}
use Rattle.planning.proofs.Going.{dwell_fits, left_even, left_blank}
use Rattle.planning.proofs.rest.Rest.next_mode.Goals as goal

pub take_off-requires-clause-enough : goal.take_off-requires-clause-enough
take_off-requires-clause-enough g c = λ i l.
    let r = c.args.self.now in
    omega (arith, c.dwell_for-dwell.ensures, smallest_le (rest_lines r) (λ k. rest_padded r k (mate_of c.ask-mates.result k)) i l)

pub overflow_sub-self : goal.overflow_sub-self
overflow_sub-self g c = omega (arith, c.from.ensures, dwell_fits g.E.Engine.may g.met.E.Engine.right c.args.self.now c.ask-mates.result c.ask-mates.ensures.asked c.dwell_for-dwell.result c.dwell_for-dwell.ensures)

pub invariant_of-self : goal.invariant_of-self
invariant_of-self g c =
    let r = c.args.self.now in
    let d = c.dwell_for-dwell.result in
    record {
      short = omega (arith, r.short);
      even = rw c.from.ensures (left_even g.E.Engine.may g.met.E.Engine.right r c.ask-mates.result c.ask-mates.ensures.asked d c.dwell_for-dwell.ensures (cells c.take_off.new.p) c.take_off.ensures);
      blank = left_blank g.E.Engine.may g.met.E.Engine.right r c.ask-mates.result c.ask-mates.ensures.asked d c.dwell_for-dwell.ensures (cells c.take_off.new.p) c.take_off.ensures;
    }

pub returns : goal.returns
returns g c = record {
  mates = c.ask-mates.result;
  asked = c.ask-mates.ensures.asked;
  turned = record {
    dwell = c.dwell_for-dwell.ensures;
    row = c.grant_all-row.ensures.row;
    padded = c.take_off.ensures;
    owed = c.grant_all-row.ensures.left;
  };
  lines = refl;
  left = omega (arith, c.from.ensures);
}
