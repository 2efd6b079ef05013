use Rattle.std.proofs.Common.{ℕ, Some, sym, refl, ap, ◌∙◌}
use Rattle.law.specs.declared.call.Call.TheVariants.{Batch}
use Rattle.session.specs.Standing.{standing_on}
use Rattle.session.specs.Sessions.{state_of}
use Rattle.session.proofs.Acting.{from_same, passed, declines, batches_so}
use Rattle.session.proofs.Advances.{good_idle}
use Rattle.session.proofs.state.Session.batch.Goals as goal

pub invariant_of-self : goal.invariant_of-self
invariant_of-self g c =
    let k = good_idle c.post_batch.new.owed _ c.in_ok-without_plan.ensures.free in
    record { next = k.next; length = k.length; within = k.within; lines = k.lines }

pub returns-in_err-without_plan : goal.returns-in_err-without_plan
returns-in_err-without_plan g c =
    let r = state_of g.S.Switch.meaning c.without_plan.new.self in
    passed _ c.from_residual.result _ c.from_residual.ensures.1
    (λ d e. from_same c.without_plan.ensures.same (declines (Batch c.args.bytes) d r r (λ size. c.in_err-without_plan.ensures.free _ ∙ ap Some (sym e)) refl))

pub returns : goal.returns
returns g c =
    let r = state_of g.S.Switch.meaning c.without_plan.new.self in
    let e = c.post_batch.ensures in
    let free = ap (standing_on r.«switch».lines r.lines) c.in_ok-without_plan.ensures.free in
    from_same c.without_plan.ensures.same
    (batches_so c.args.bytes r _ free e.lines (ap (λ (l : ℕ). standing_on r.«switch».lines l c.without_plan.new.self.state) e.lines) refl e.units _ e.answer)
