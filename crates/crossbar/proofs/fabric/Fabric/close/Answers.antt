use Rattle.std.proofs.Common.{◌≤◌, get_or, None, refl, arith, rules}
use Rattle.crossbar.proofs.Outcomes.{down_in, units_in, under_way_in}
use Rattle.crossbar.proofs.fabric.Fabric.close.Goals as goal

pub add_outcomes-requires : goal.add_outcomes-requires
add_outcomes-requires c =
    let s = c.args.self.now in
    record {
      small = λ i j. omega (arith, s.carried_in_time i j, s.time_left);
      downs = λ i. omega (arith, down_in s.mode i (get_or c.args.all i None) c.requires.stands (c.requires.carry i), s.downs_kept i);
      rows = s.rows;
    }

pub invariant_of-self : goal.invariant_of-self
invariant_of-self c =
    let s = c.args.self.now in
    let fits : c.args.dwell ≤ 65535 = search rules in
    record {
      time_left = omega (arith, s.time_left, under_way_in s.mode c.requires.stands, fits);
      rows = c.add_outcomes.ensures.rows;
      carried_in_time = λ i j. omega (arith, c.add_outcomes.ensures.each i j, s.carried_in_time i j, units_in s.mode i j (get_or c.args.all i None) c.requires.stands (c.requires.carry i), s.units_kept i);
      units_kept = λ i. omega arith;
      downs_kept = λ i. omega arith;
      row_kept = refl;
    }
