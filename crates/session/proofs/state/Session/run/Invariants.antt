use Rattle.law.proofs.Going.{Going}
use Rattle.session.specs.Sessions.{state_of}
use Rattle.session.proofs.state.Session.run.Given as goal

abbrev pub invariant-loop-count : goal.invariant-loop-count
invariant-loop-count g l =
    let read = state_of g.S.Switch.meaning in
    Going (read l.initial.self) (read l.self) l.count
