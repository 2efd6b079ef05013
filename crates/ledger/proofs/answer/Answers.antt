use Rattle.ledger.proofs.Giving.{acts_lawfully}
use Rattle.ledger.proofs.answer.Goals as goal

pub returns : goal.returns
returns g c = acts_lawfully g.met.E.Engine.right c.give.ensures
