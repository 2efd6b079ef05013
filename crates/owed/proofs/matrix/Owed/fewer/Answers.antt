use Rattle.std.proofs.Common.{arith}
use Rattle.owed.specs.Calls.{units_of}
use Rattle.owed.proofs.Busiest.{up_le_busiest, down_le_busiest}
use Rattle.owed.proofs.matrix.Owed.fewer.Goals as goal

pub returns-clause-room : goal.returns-clause-room
returns-clause-room c =
    let o = c.args.self.now in
    let limit = o.limited in
    grind (arith, up_le_busiest o.lines.count (units_of o) c.args.up.0, down_le_busiest o.lines.count (units_of o) c.args.down.0)
