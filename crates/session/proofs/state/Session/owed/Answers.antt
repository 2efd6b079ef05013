use Rattle.session.specs.Sessions.{state_of}
use Rattle.session.proofs.Acting.{passed, asks_not}
use Rattle.session.proofs.state.Session.owed.Goals as goal

pub returns-in_err-units : goal.returns-in_err-units
returns-in_err-units g c = passed _ c.from_residual.result _ c.from_residual.ensures.1 (λ d is. asks_not c.args.up c.args.down (state_of g.S.Switch.meaning c.args.self.now) _ _ c.in_err-units.ensures d is)
