use Rattle.std.proofs.Common.{◌≡◌, take, drop}
use Rattle.law.proofs.Performing.{Performing}
use Rattle.session.specs.Sessions.{state_of, PlannedBy}
use Rattle.ledger.proofs.give_all.Given as goal

abbrev pub invariant-loop-i : goal.invariant-loop-i
invariant-loop-i g l =
    let read = state_of g.S.Switch.meaning in
    Performing (PlannedBy g.E.Engine.may) (read l.initial.session) (take l.i l.calls) (take l.i l.answers) l.initial.out l.out (read l.session) × (drop l.i l.answers ≡ drop l.i l.initial.answers)
