use Rattle.std.proofs.Common.{Some, sym, refl, ap, ◌∙◌}
use Rattle.law.specs.declared.call.Call.TheVariants.{Plan}
use Rattle.law.proofs.Said.{mapped_ok, mapped_err}
use Rattle.session.specs.Standing.{standing_on}
use Rattle.session.specs.Sessions.{state_of}
use Rattle.session.proofs.Acting.{from_same, passed, declines}
use Rattle.session.proofs.Planning.{good_plan, plans_declined, plans}
use Rattle.session.proofs.state.Session.plan.Goals as goal

pub invariant_of-self-2 : goal.invariant_of-self-2
invariant_of-self-2 g c =
    let s = c.without_plan.new.self in
    let ok = mapped_ok _ c.make_plan.result _ c.in_ok-plan.plan c.map_err.ensures.cases c.in_ok-plan.was in
    let answer = rw ok at c.make_plan.ensures.answer in
    let best = rw ok at c.make_plan.ensures.best in
    let k = good_plan s.owed c.in_ok-plan.plan c.length-length.result c.length-length.ensures answer.1 best.serves in
    record { next = k.next; length = k.length; within = k.within; lines = k.lines }

pub returns-in_err-without_plan : goal.returns-in_err-without_plan
returns-in_err-without_plan g c =
    let r = state_of g.S.Switch.meaning c.without_plan.new.self in
    passed _ c.from_residual.result _ c.from_residual.ensures.1
    (λ d e. from_same c.without_plan.ensures.same (declines Plan d r r (λ size. c.in_err-without_plan.ensures.free _ ∙ ap Some (sym e)) refl))

pub returns-in_err-plan : goal.returns-in_err-plan
returns-in_err-plan g c =
    let r = state_of g.S.Switch.meaning c.without_plan.new.self in
    let free = ap (standing_on r.«switch».lines r.lines) c.in_ok-without_plan.ensures.free in
    let err = mapped_err _ c.make_plan.result _ c.in_err-plan.field-0.0 c.map_err.ensures.cases c.in_err-plan.was in
    passed _ c.from_residual-in_err-plan.result _ c.from_residual-in_err-plan.ensures.1
    (λ d is. from_same c.without_plan.ensures.same (plans_declined r free err.0 (rw err.1 at c.make_plan.ensures.answer) d (is ∙ err.2)))

pub returns : goal.returns
returns g c =
    let s = c.without_plan.new.self in
    let r = state_of g.S.Switch.meaning s in
    let free = ap (standing_on r.«switch».lines r.lines) c.in_ok-without_plan.ensures.free in
    let ok = mapped_ok _ c.make_plan.result _ c.in_ok-plan.plan c.map_err.ensures.cases c.in_ok-plan.was in
    let answer = rw ok at c.make_plan.ensures.answer in
    let made = rw ok at c.make_plan.ensures.made_by in
    from_same c.without_plan.ensures.same
    (plans g.S.Switch.meaning g.E.Engine.may s c.in_ok-plan.plan c.count-modes.result c.length-length.result free (sym c.agrees.ensures ∙ c.if-not-agrees.false) answer.0 made c.count-modes.ensures c.length-length.ensures)
