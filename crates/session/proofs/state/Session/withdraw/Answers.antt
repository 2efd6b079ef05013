use Rattle.std.proofs.Common.{ℕ, Some, sym, refl, ap, ◌∙◌}
use Rattle.law.specs.declared.call.Call.TheVariants.{Withdraw}
use Rattle.session.specs.Standing.{standing_on}
use Rattle.session.specs.Sessions.{state_of}
use Rattle.session.proofs.Acting.{from_same, passed, declines, withdraws, withdraws_not}
use Rattle.session.proofs.Advances.{good_idle}
use Rattle.session.proofs.state.Session.withdraw.Goals as goal

pub invariant_of-self : goal.invariant_of-self
invariant_of-self g c =
    let k = good_idle c.take.new.self _ c.in_ok-without_plan.ensures.free in
    record { next = k.next; length = k.length; within = k.within; lines = k.lines }

pub returns-in_err-without_plan : goal.returns-in_err-without_plan
returns-in_err-without_plan g c =
    let r = state_of g.S.Switch.meaning c.without_plan.new.self in
    passed _ c.from_residual.result _ c.from_residual.ensures.1
    (λ d e. from_same c.without_plan.ensures.same (declines (Withdraw c.args.up c.args.down c.args.units) d r r (λ size. c.in_err-without_plan.ensures.free _ ∙ ap Some (sym e)) refl))

pub returns-in_err-take : goal.returns-in_err-take
returns-in_err-take g c =
    let r = state_of g.S.Switch.meaning c.without_plan.new.self in
    let e = c.take.ensures in
    let free = ap (standing_on r.«switch».lines r.lines) c.in_ok-without_plan.ensures.free in
    passed _ c.from_residual-in_err-take.result _ c.from_residual-in_err-take.ensures.1
    (λ d is. from_same c.without_plan.ensures.same (withdraws_not c.args.up c.args.down c.args.units r _ free e.lines (ap (λ (l : ℕ). standing_on r.«switch».lines l c.without_plan.new.self.state) e.lines) refl e.units _ c.in_err-take.ensures.answer d is))

pub returns : goal.returns
returns g c =
    let r = state_of g.S.Switch.meaning c.without_plan.new.self in
    let e = c.take.ensures in
    let free = ap (standing_on r.«switch».lines r.lines) c.in_ok-without_plan.ensures.free in
    from_same c.without_plan.ensures.same (withdraws c.args.up c.args.down c.args.units r _ free e.lines (ap (λ (l : ℕ). standing_on r.«switch».lines l c.without_plan.new.self.state) e.lines) refl e.units c.in_ok-take.ensures.answer)
