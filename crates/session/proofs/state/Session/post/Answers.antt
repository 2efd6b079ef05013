use Rattle.std.proofs.Common.{ℕ, Some, sym, refl, ap, ◌∙◌}
use Rattle.law.specs.declared.call.Call.TheVariants.{Post}
use Rattle.session.specs.Standing.{standing_on}
use Rattle.session.specs.Sessions.{state_of}
use Rattle.session.proofs.Acting.{from_same, passed, declines, posts, posts_not}
use Rattle.session.proofs.Advances.{good_idle}
use Rattle.session.proofs.state.Session.post.Goals as goal

pub invariant_of-self : goal.invariant_of-self
invariant_of-self g c =
    let k = good_idle c.add.new.self _ c.in_ok-without_plan.ensures.free in
    record { next = k.next; length = k.length; within = k.within; lines = k.lines }

pub returns-in_err-without_plan : goal.returns-in_err-without_plan
returns-in_err-without_plan g c =
    let r = state_of g.S.Switch.meaning c.without_plan.new.self in
    passed _ c.from_residual.result _ c.from_residual.ensures.1
    (λ d e. from_same c.without_plan.ensures.same (declines (Post c.args.up c.args.down c.args.units) d r r (λ size. c.in_err-without_plan.ensures.free _ ∙ ap Some (sym e)) refl))

pub returns-in_err-add : goal.returns-in_err-add
returns-in_err-add g c =
    let r = state_of g.S.Switch.meaning c.without_plan.new.self in
    let e = c.add.ensures in
    let free = ap (standing_on r.«switch».lines r.lines) c.in_ok-without_plan.ensures.free in
    passed _ c.from_residual-in_err-add.result _ c.from_residual-in_err-add.ensures.1
    (λ d is. from_same c.without_plan.ensures.same (posts_not c.args.up c.args.down c.args.units r _ free e.lines (ap (λ (l : ℕ). standing_on r.«switch».lines l c.without_plan.new.self.state) e.lines) refl e.units _ c.in_err-add.ensures.answer d is))

pub returns : goal.returns
returns g c =
    let r = state_of g.S.Switch.meaning c.without_plan.new.self in
    let e = c.add.ensures in
    let free = ap (standing_on r.«switch».lines r.lines) c.in_ok-without_plan.ensures.free in
    from_same c.without_plan.ensures.same (posts c.args.up c.args.down c.args.units r _ free e.lines (ap (λ (l : ℕ). standing_on r.«switch».lines l c.without_plan.new.self.state) e.lines) refl e.units c.in_ok-add.ensures.answer)
