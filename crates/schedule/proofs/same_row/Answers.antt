use Rattle.schedule.proofs.Equal.{rows_told}
use Rattle.schedule.proofs.same_row.Goals as goal

pub returns-clause-same : goal.returns-clause-same
returns-clause-same c = rows_told c.args.one.now c.args.other.now c.eq.result c.eq.ensures
