use Rattle.std.proofs.Common.{arith}
use Rattle.lines.specs.Matrix.{cells}
use Rattle.owed.specs.Limits.{limit}
use Rattle.owed.proofs.Busiest.{wrote_busiest, wrote_blank}
use Rattle.owed.proofs.Cells.{wrote_row}
use Rattle.owed.proofs.matrix.Owed.write.Goals as goal

pub invariant_of-self : goal.invariant_of-self
invariant_of-self c =
    let o = c.args.self.now in
    let room = c.requires in
    let wrote = wrote_row o.rows _ c.from-i.result c.from-j.result _ (omega arith) c.put.ensures.here c.put.ensures.others in
    record {
      limited = wrote_busiest o.lines.count limit (cells o.rows) _ c.from-i.result c.from-j.result c.args.units (omega arith) (omega arith) o.limited wrote (rw (c.from-i.ensures, c.from-j.ensures) room.up_fits) (rw (c.from-i.ensures, c.from-j.ensures) room.down_fits);
      blank = wrote_blank o.lines.count (cells o.rows) _ c.from-i.result c.from-j.result c.args.units (omega arith) (omega arith) o.blank wrote;
    }

pub returns-clause-units : goal.returns-clause-units
returns-clause-units c =
    rw (← c.from-i.ensures, ← c.from-j.ensures) (wrote_row c.args.self.now.rows _ c.from-i.result c.from-j.result _ (omega arith) c.put.ensures.here c.put.ensures.others)
