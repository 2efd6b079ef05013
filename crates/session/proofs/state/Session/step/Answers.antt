use Rattle.std.proofs.Common.{◌≡◌, List, get_or, rules, refl, ap, ◌∙◌}
use Rattle.schedule.specs.declared.Mode.{Mode}
use Rattle.planning.specs.Kept.{no_mode}
use Rattle.law.specs.declared.call.Call.TheVariants.{Step}
use Rattle.law.specs.declared.decline.SessionDecline.TheVariants.{NoPlan, Mode as OfMode}
use Rattle.law.specs.States.{Plan}
use Rattle.law.specs.Refusals.{next_decline}
use Rattle.law.proofs.Said.{mapped_ok, mapped_err}
use Rattle.session.specs.Standing.{standing}
use Rattle.session.specs.Sessions.{state_of}
use Rattle.session.proofs.Acting.{from_same, passed, declines}
use Rattle.session.proofs.Stepping.{lasts, stays, stays_so, stays_good, steps, steps_so}
use Rattle.session.proofs.state.Session.step.Goals as goal

pub returns-in_default : goal.returns-in_default
returns-in_default g c =
    let r = state_of g.S.Switch.meaning c.refresh.new.self in
    from_same c.refresh.ensures.same (declines Step NoPlan r r (λ size. ap (λ (p : Plan). next_decline p r.«switch») (c.refresh.ensures.plan ∙ ap standing c.in_default.is)) refl)

pub returns-in_err-outcomes : goal.returns-in_err-outcomes
returns-in_err-outcomes g c =
    let p = c.in-Planned in
    let e = c.refresh.ensures in
    let err = mapped_err _ c.run_planned.result _ c.in_err-outcomes.field-0.0 c.map_err.ensures.cases c.in_err-outcomes.was in
    let post = err.2 in
    let mode : c.in_err-outcomes.field-0.0 ≡ OfMode p.place err.0 = search rules in
    passed _ c.from_residual.result _ c.from_residual.ensures.1
    (λ d is. stays_so
    (stays g.S.Switch.meaning c.refresh.new.self p.plan p.place p.left p.is _ (ap (λ (l : List Mode). get_or l p.place no_mode) c.modes.ensures) e.plan e.lines c.run_planned.new.s
    err.0 (rw err.1 at c.run_planned.ensures) _ e.same) d (is ∙ mode))

pub go_on-requires : goal.go_on-requires
go_on-requires g c =
    let p = c.in-Planned in
    record {
      next = c.refresh.new.self.next;
      lasts = lasts g.S.Switch.meaning c.refresh.new.self p.plan p.place p.left p.is _ (ap (λ (l : List Mode). get_or l p.place no_mode) c.modes.ensures);
    }

pub invariant_of-self-2 : goal.invariant_of-self-2
invariant_of-self-2 g c =
    let p = c.in-Planned in
    let e = c.refresh.ensures in
    let ok = mapped_ok _ c.run_planned.result _ c.in_ok-outcomes.outcomes c.map_err.ensures.cases c.in_ok-outcomes.was in
    let k = stays_good g.S.Switch.meaning c.refresh.new.self p.plan p.place p.left p.is _ (ap (λ (l : List Mode). get_or l p.place no_mode) c.modes.ensures) e.plan e.lines c.run_planned.new.s
    c.in_ok-outcomes.outcomes (rw ok at c.run_planned.ensures) c.settle.new.owed c.settle.ensures.lines c.settle.ensures.units c.go_on.new.state c.go_on.ensures in
    record { next = k.next; length = k.length; within = k.within; lines = k.lines }

pub returns : goal.returns
returns g c =
    let p = c.in-Planned in
    let e = c.refresh.ensures in
    let ok = mapped_ok _ c.run_planned.result _ c.in_ok-outcomes.outcomes c.map_err.ensures.cases c.in_ok-outcomes.was in
    steps_so
    (steps g.S.Switch.meaning c.refresh.new.self p.plan p.place p.left p.is _ (ap (λ (l : List Mode). get_or l p.place no_mode) c.modes.ensures) e.plan e.lines c.run_planned.new.s
    c.in_ok-outcomes.outcomes (rw ok at c.run_planned.ensures) c.settle.new.owed c.settle.ensures.lines c.settle.ensures.units c.go_on.new.state c.go_on.ensures
    c.fell_short.result c.fell_short.ensures _ e.same _ refl)
