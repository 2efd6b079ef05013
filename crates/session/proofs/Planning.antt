-- A plan that a session makes and takes up. Assumes nothing.
use Rattle.std.proofs.Common.{◌≡◌, ℕ, ◌<◌, Bool, true, cond, eqb, [], length, sym, refl, ap, subst, arith}
use Rattle.lines.specs.Matrix.{busiest}
use Rattle.schedule.specs.Modes.{span, Serves}
use Rattle.owed.specs.declared.matrix.Owed.{Owed}
use Rattle.owed.specs.Calls.{lines_of, units_of}
use Rattle.switch.specs.Meaning.{Meaning}
use Rattle.matching.specs.Answers.{May}
use Rattle.planning.specs.declared.plan.Plan.{Plan}
use Rattle.planning.specs.Making.{MadeBy}
use Rattle.planning.specs.declared.decline.PlanDecline.{PlanDecline}
use Rattle.planning.specs.declared.decline.PlanDecline.TheVariants.{NothingOwed as NothingToDo, NoMemory as NoRoom}
use Rattle.planning.specs.Plans.{plan_lines, plan_modes, Stands}
use Rattle.law.specs.declared.call.Call.TheVariants.{Plan as ToPlan}
use Rattle.law.specs.declared.answer.Answer.TheVariants.{Planned as HasPlanned, Declined}
use Rattle.law.specs.declared.decline.SessionDecline.{SessionDecline}
use Rattle.law.specs.declared.decline.SessionDecline.TheVariants.{NothingOwed, NoMemory}
use Rattle.law.specs.States.{State as Shown, idle, planned, with_plan}
use Rattle.law.specs.Calls.{Maker}
use Rattle.law.proofs.Answering.{nothing_owed_so, no_memory_so, planned_so}
use Rattle.session.specs.declared.state.State.TheVariants.{Planned}
use Rattle.session.specs.declared.state.Session.{Session}
use Rattle.session.specs.Sessions.{state_of, PlannedBy, Acts, plan_declined}
use Rattle.session.proofs.Advances.{Good, serves_within}
use Rattle.session.proofs.Stepping.{shown}

-- a plan that serves what is owed may be taken up
pub good_plan : (o : Owed) (p : Plan) (left : ℕ) → left ≡ span (plan_modes p) → plan_lines p ≡ lines_of o → Serves (lines_of o) (plan_modes p) (units_of o) → Good o (Planned p 0 left)
good_plan o p left long lines serves = record {
  next = p.some_mode;
  length = long;
  within = serves_within (lines_of o) (plan_modes p) (units_of o) serves;
  lines = lines;
}

module _ {M : Maker} (s : Shown) (free : s.plan ≡ idle) where
  plans_nothing : busiest s.lines s.owed ≡ 0 → Acts M ToPlan (Declined NothingOwed) s s
  plans_nothing none = record { runs = []; does = λ buffer. nothing_owed_so buffer buffer s s refl free none refl }

  plans_not : 0 < busiest s.lines s.owed → Acts M ToPlan (Declined NoMemory) s s
  plans_not some = record { runs = []; does = λ buffer. no_memory_so buffer buffer s s refl free (λ z. omega arith) refl }

  pub plans_declined : (e : PlanDecline) → Stands (busiest s.lines s.owed) e → (d : SessionDecline) → d ≡ plan_declined e → Acts M ToPlan (Declined d) s s
  plans_declined NothingToDo h d is = subst (λ (x : SessionDecline). Acts M ToPlan (Declined x) s s) (sym is) (plans_nothing h)
  plans_declined NoRoom h d is = subst (λ (x : SessionDecline). Acts M ToPlan (Declined x) s s) (sym is) (plans_not h)

-- a plan is taken up where the switch has the lines that units are owed on
pub plans : {S E : Type 0} (meaning : S → Meaning) (may : May) (s : Session S E) (p : Plan) (k left : ℕ) →
    (state_of meaning s).plan ≡ idle → eqb (meaning s.«switch»).lines (lines_of s.owed) ≡ true → 0 < busiest (lines_of s.owed) (units_of s.owed) →
    MadeBy may (lines_of s.owed) (units_of s.owed) (plan_modes p) → k ≡ length (plan_modes p) → left ≡ span (plan_modes p) →
    Acts (PlannedBy may) ToPlan (HasPlanned (record { modes = k; length = left })) (state_of meaning s) (shown meaning s.«switch» s.owed (Planned p 0 left))
plans meaning may s p k left free agrees some made count long =
    let r = state_of meaning s in
    let by : PlannedBy may r.lines r.owed (plan_modes p) = record { some_line = s.owed.lines.some; few_lines = s.owed.lines.few; owes = some; short = s.owed.limited; made = made } in
    let up : shown meaning s.«switch» s.owed (Planned p 0 left) ≡ with_plan (planned 0 (plan_modes p)) r =
    ap (λ (x : Bool). with_plan (cond x (planned 0 (plan_modes p)) idle) r) agrees in
    record { runs = []; does = λ buffer. planned_so buffer buffer r _ refl free (λ z. omega arith) (plan_modes p) by k left count long up }
