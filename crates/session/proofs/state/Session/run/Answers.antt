use Rattle.std.proofs.Common.{◌≡◌, ℕ, true, false, [], Some, None, Option, is_some, sym, refl, ◌∙◌, subst, arith}
use Rattle.std.proofs.lemmas.Bool.{true≢false}
use Rattle.law.specs.declared.call.Call.TheVariants.{Run}
use Rattle.law.specs.declared.answer.Answer.TheVariants.{Ran}
use Rattle.runs.specs.declared.Cause.TheVariants.{Stop, Budget}
use Rattle.law.specs.declared.decline.SessionDecline.TheVariants.{NoPlan}
use Rattle.law.specs.States.{State}
use Rattle.law.specs.Refusals.{next_decline}
use Rattle.law.proofs.Going.{step_to, step_not, going_none, going_on, ends_so, falls_short_so, stopped_so, spent_so, going_first, no_budget_so, run_declined_so}
use Rattle.session.specs.Sessions.{state_of, PlannedBy, Acts}
use Rattle.session.proofs.Acting.{declines, no_plan}
use Rattle.session.proofs.state.Session.run.Goals as goal

pub returns-then-not-stands : goal.returns-then-not-stands
returns-then-not-stands g c =
    let s = state_of g.S.Switch.meaning c.args.self.now in
    declines (Run c.args.budget) NoPlan s s (λ size. no_plan s.plan _ (sym c.stands.ensures ∙ c.if-not-stands.true)) refl

pub returns-then-budget-eq0 : goal.returns-then-budget-eq0
returns-then-budget-eq0 g c =
    let s = state_of g.S.Switch.meaning c.args.self.now in
    record { runs = []; does = λ buffer. no_budget_so c.args.budget buffer buffer s s refl refl (sym c.stands.ensures ∙ c.if-not-stands.false) c.if-budget-eq0.true }

-- whether units fell short
some_of : {A : Type 0} (o : Option A) → is_some o ≡ true → (x : A) × (o ≡ Some x)
some_of None e = absurd (true≢false (sym e))
some_of (Some x) e = (x, refl)

none_of : {A : Type 0} (o : Option A) → is_some o ≡ false → o ≡ None
none_of None e = refl
none_of (Some x) e = absurd (true≢false e)

pub loop-count-init : goal.loop-count-init
loop-count-init g c = going_none (state_of g.S.Switch.meaning c.args.self.now) (sym c.stands.ensures ∙ c.if-not-stands.false)

pub returns-then-count-eq0 : goal.returns-then-count-eq0
returns-then-count-eq0 g c =
    let s = state_of g.S.Switch.meaning c.args.self.now in
    let w = step_not (c.in-Err.ensures.does []) in
    let same = going_first c.loop-count.invariant c.if-count-eq0.true in
    record {
      runs = [];
      does = λ buffer. run_declined_so c.args.budget buffer buffer s _ refl (w.1 ∙ same) (sym c.stands.ensures ∙ c.if-not-stands.false) _ (λ z. omega arith)
          (subst (λ (x : State). next_decline x.plan x.«switch» ≡ Some c.in-Err.decline) same w.0);
    }

pub returns-in-Err : goal.returns-in-Err
returns-in-Err g c =
    let s = state_of g.S.Switch.meaning c.args.self.now in
    let w = step_not (c.in-Err.ensures.does []) in
    subst (λ (x : State). Acts (PlannedBy g.E.Engine.may) (Run c.args.budget) (Ran (record { count = c.loop-count.count; cause = Stop })) s x) (sym w.1)
    (record { runs = c.loop-count.invariant.runs; does = λ buffer. stopped_so c.loop-count.invariant c.args.budget buffer buffer refl (omega arith) (omega arith) _ w.0 })

pub returns-then-not-stands-2 : goal.returns-then-not-stands-2
returns-then-not-stands-2 g c =
    let m = step_to (c.in-Ok.ensures.does []) in
    record { runs = _; does = λ buffer. ends_so c.loop-count.invariant c.args.budget buffer buffer refl m (omega arith) (sym c.stands-in-loop-count.ensures ∙ c.if-not-stands-2.true) }

pub returns-then-is_some : goal.returns-then-is_some
returns-then-is_some g c =
    let short = some_of _ (sym c.is_some.ensures ∙ c.if-is_some.true) in
    let m = step_to (c.in-Ok.ensures.does []) in
    record { runs = _; does = λ buffer. falls_short_so c.loop-count.invariant c.args.budget buffer buffer refl m (omega arith) (sym c.stands-in-loop-count.ensures ∙ c.if-not-stands-2.false) short.0 short.1 }

pub loop-count-preserved : goal.loop-count-preserved
loop-count-preserved g c =
    going_on c.loop-count.invariant (step_to (c.in-Ok.ensures.does [])) (none_of _ (sym c.is_some.ensures ∙ c.if-is_some.false)) (sym c.stands-in-loop-count.ensures ∙ c.if-not-stands-2.false)

pub returns : goal.returns
returns g c =
    let s = state_of g.S.Switch.meaning c.args.self.now in
    let t = state_of g.S.Switch.meaning c.loop-count.self in
    let all : c.loop-count.count ≡ c.args.budget = omega arith in
    subst (λ (k : ℕ). Acts (PlannedBy g.E.Engine.may) (Run c.args.budget) (Ran (record { count = k; cause = Budget })) s t) all
    (record { runs = c.loop-count.invariant.runs; does = λ buffer. spent_so c.loop-count.invariant c.args.budget buffer buffer refl (omega arith) all })
