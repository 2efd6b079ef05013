use Rattle.std.proofs.Common.{arith}
use Rattle.lines.proofs.Sums.{term_le_sum}
use Rattle.owed.specs.Calls.{units_of}
use Rattle.owed.proofs.matrix.Owed.more.Goals as goal

pub overflow_add-result : goal.overflow_add-result
overflow_add-result c =
    let o = c.args.self.now in
    let room = c.check_room.ensures in
    grind (arith, term_le_sum o.lines.count (units_of o c.args.up.0) c.args.down.0)
