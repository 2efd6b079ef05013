use Rattle.std.proofs.Common.{◌≡◌, ℕ, min, length, take, drop, refl, subst, arith}
use Rattle.law.proofs.Performing.{Performing, performing_none, performing_all}
use Rattle.session.specs.Sessions.{state_of, PlannedBy}
use Rattle.ledger.proofs.Giving.{makes, performs_more, keeps_more}
use Rattle.ledger.proofs.give_all.Goals as goal

pub loop-i-init : goal.loop-i-init
loop-i-init g c = (performing_none _ _ _, refl)

pub loop-i-preserved : goal.loop-i-preserved
loop-i-preserved g c =
    let calls = c.args.calls.now in
    let answers = c.loop-i.answers in (
      performs_more calls answers c.loop-i.i c.loop-i.invariant.0 _ _ c.answer.result _ _ (omega arith) (omega arith) refl c.answer.ensures,
      keeps_more calls answers c.loop-i.i c.args.answers.now c.loop-i.invariant.1 c.answer.result,
    )

pub returns : goal.returns
returns g c =
    let calls = c.args.calls.now in
    let first = c.args.answers.now in
    let answers = c.loop-i.answers in
    let read = state_of g.S.Switch.meaning in
    let M = PlannedBy g.E.Engine.may in
    let e : c.loop-i.i ≡ min (length calls) (length first) = omega arith in
    let w = subst (λ (k : ℕ). Performing M (read c.args.session.now) (take k calls) (take k answers) c.args.out.now c.loop-i.out (read c.loop-i.session)) e c.loop-i.invariant.0 in
    record {
      performed = λ over made. performing_all w over (makes g.E.Engine.may g.met.E.Engine.right) made;
      untouched = subst (λ (k : ℕ). drop k answers ≡ drop k first) e c.loop-i.invariant.1;
    }
