-- The next mode of a session, run or declined. Assumes nothing.
use Rattle.std.proofs.Common.{◌≡◌, ℕ, ◌+◌, ◌-◌, ◌≤◌, List, [], ◌∷◌, drop, Some, Ok, Err, Option, sym, refl, ap, ◌∙◌, subst, arith}
use Rattle.schedule.specs.declared.Mode.{Mode}
use Rattle.schedule.specs.Modes.{Sound, granted}
use Rattle.owed.specs.declared.matrix.Owed.{Owed}
use Rattle.owed.specs.Calls.{lines_of, units_of}
use Rattle.switch.specs.declared.Outcome.{Outcome}
use Rattle.switch.specs.Meaning.{Meaning}
use Rattle.driver.specs.declared.DriverDecline.{DriverDecline}
use Rattle.steps.specs.WholeMode.{Runs}
use Rattle.planning.specs.declared.plan.Plan.{Plan}
use Rattle.planning.specs.Plans.{plan_lines, plan_modes}
use Rattle.planning.specs.Kept.{mode_at}
use Rattle.runs.specs.declared.Shortfall.{Shortfall}
use Rattle.law.specs.declared.answer.Step.{Step}
use Rattle.law.specs.declared.answer.Answer.TheVariants.{Stepped, Declined}
use Rattle.law.specs.declared.call.Call.TheVariants.{Step as ToStep}
use Rattle.law.specs.declared.decline.SessionDecline.{SessionDecline}
use Rattle.law.specs.declared.decline.SessionDecline.TheVariants.{Mode as OfMode}
use Rattle.law.specs.States.{State as Shown, planned}
use Rattle.law.specs.Runs.{ModeRun, Advanced, carried_by, shortfall}
use Rattle.law.specs.Refusals.{next_decline}
use Rattle.law.specs.Calls.{Maker}
use Rattle.law.proofs.Stepping.{RanWhole, whole_ran, whole_declined, mode_run, advanced_so, next_declined, stepped_so}
use Rattle.session.specs.declared.state.State.{State}
use Rattle.session.specs.declared.state.State.TheVariants.{Planned}
use Rattle.session.specs.declared.state.Session.{Session}
use Rattle.session.specs.Standing.{length_of, standing, standing_on, lines_for, onward_of}
use Rattle.session.specs.Sessions.{state_of, Acts}
use Rattle.session.proofs.Acting.{declines}
use Rattle.session.proofs.Advances.{Good, good_of, stands_as_is, carried_within, left_next, span_next, grants_next, next_sound, goes_on, good_on}

-- the next mode has been run, and this is told of it
pub record StepsTo (x : Step) (s t : Shown) : Type 0 where
  pub run : ModeRun
  pub advanced : Advanced s run
  pub number : x.number ≡ advanced.place
  pub dwell : x.dwell ≡ run.mode.dwell
  pub short : x.short ≡ shortfall run.outcomes
  pub state : t ≡ run.after

pub steps_so : {M : Maker} {k : Step} {s t : Shown} → StepsTo k s t → Acts M ToStep (Stepped k) s t
steps_so w = record { runs = w.run ∷ []; does = λ buffer. stepped_so buffer buffer _ _ refl w.run w.advanced _ _ _ w.number w.dwell w.short w.state }

-- the next mode could not be run
pub record Stays (d : SessionDecline) (s t : Shown) : Type 0 where
  pub why : next_decline s.plan s.«switch» ≡ Some d
  pub state : t ≡ s

pub stays_so : {M : Maker} {d : SessionDecline} {s t : Shown} → Stays d s t → (x : SessionDecline) → x ≡ d → Acts M ToStep (Declined x) s t
stays_so w x is = declines ToStep x _ _ (λ size. w.why ∙ ap Some (sym is)) w.state

-- what is shown of a switch, of owed units and of a state
abbrev pub shown : {S : Type 0} → (S → Meaning) → S → Owed → State → Shown
shown meaning x o st = record { lines = lines_of o; owed = units_of o; plan = standing_on (meaning x).lines (lines_of o) st; «switch» = meaning x }

-- a session whose plan stands, with m its next mode
module _ {S E : Type 0} (meaning : S → Meaning) (s : Session S E) (p : Plan) (place left : ℕ) (is : s.state ≡ Planned p place left) (m : Mode) (m-is : m ≡ mode_at (plan_modes p) place) where
  good : Good s.owed (Planned p place left)
  good = good_of s (Planned p place left) is

  abbrev rest : List Mode
  rest = drop (place + 1) (plan_modes p)

  pub lasts : m.dwell ≤ length_of s.state
  lasts = subst (λ (x : State). m.dwell ≤ length_of x) (sym is) (omega (arith, span_next s.owed p place left good m m-is))

  module _ (plan : (state_of meaning s).plan ≡ standing s.state) (lines : lines_for (meaning s.«switch»).lines s.state ≡ (meaning s.«switch»).lines) (x : S) where
    abbrev n : ℕ
    n = (meaning s.«switch»).lines

    agrees : plan_lines p ≡ n
    agrees = subst (λ (st : State). lines_for n st ≡ n) is lines

    sound : Sound n m
    sound = subst (λ (k : ℕ). Sound k m) agrees (next_sound s.owed p place left good m m-is)

    stood : (state_of meaning s).plan ≡ planned place (m ∷ rest)
    stood = plan ∙ ap standing is ∙ ap (planned place) (left_next s.owed p place left good m m-is)

    pub stays : (d : DriverDecline) → (Sound n m → Runs m (meaning s.«switch») (meaning x) (Err d)) → (z : Shown) → state_of meaning s ≡ z → Stays (OfMode place d) z (shown meaning x s.owed s.state)
    stays d ran z same =
        let w = whole_declined m (meaning s.«switch») (meaning x) d (ran sound) in
        let back : shown meaning x s.owed s.state ≡ state_of meaning s = ap (λ (v : Meaning). let t : Shown = record { lines = lines_of s.owed; owed = units_of s.owed; plan = standing_on v.lines (lines_of s.owed) s.state; «switch» = v } in t) w.after in
        subst (λ (y : Shown). Stays (OfMode place d) y (shown meaning x s.owed s.state)) same
        (record { why = next_declined (state_of meaning s) place (m ∷ rest) d stood w.stops; state = back })

    module _ (os : List (Option Outcome)) (ran : Sound n m → Runs m (meaning s.«switch») (meaning x) (Ok os)) (o : Owed) (same_lines : lines_of o ≡ lines_of s.owed) (settled : (a b : ℕ) → units_of o a b ≡ units_of s.owed a b - carried_by os a b) where
      whole : RanWhole m (meaning s.«switch») (meaning x) os
      whole = whole_ran m (meaning s.«switch») (meaning x) os (ran sound)

      within : (a b : ℕ) → carried_by os a b ≤ granted m a b
      within = carried_within m os whole.sixteen whole.carry

      module _ (st : State) (after : st ≡ onward_of m.dwell s.state) where
        went : st ≡ onward_of m.dwell (Planned p place left)
        went = after ∙ ap (onward_of m.dwell) is

        pub stays_good : Good o st
        stays_good = subst (λ (y : State). Good o y) (sym went) (good_on s.owed p place left good m m-is (carried_by os) within o same_lines settled)

        goes : (shown meaning x o st).plan ≡ standing st
        goes = stands_as_is (meaning x).lines (lines_of o) st (ap (λ (v : Meaning). v.lines) whole.after ∙ sym agrees ∙ good.lines ∙ sym same_lines)

        pub steps : (y : Option Shortfall) → y ≡ shortfall os → (z : Shown) → state_of meaning s ≡ z → (k : Step) → k ≡ record { number = place; dwell = m.dwell; short = y } → StepsTo k z (shown meaning x o st)
        steps y told z same k k-is =
            let t = shown meaning x o st in
            let adv = advanced_so (state_of meaning s) t place m rest os n sound (omega (arith, agrees, p.lines.few)) stood whole same_lines
            (λ a b. omega (arith, settled a b, within a b, grants_next s.owed p place left good m m-is a b))
            (goes ∙ ap standing went ∙ goes_on s.owed p place left good m m-is) in
            subst (λ (w : Shown). StepsTo k w t) same
            (record {
              run = mode_run (state_of meaning s) t place m rest os;
              advanced = record {
                place = place;
                rest = rest;
                stood = stood;
                starts = adv.starts;
                sixteen = adv.sixteen;
                carry = adv.carry;
                lines = adv.lines;
                owed = adv.owed;
                goes_on = goes ∙ ap standing went ∙ goes_on s.owed p place left good m m-is;
                «switch» = adv.«switch»;
              };
              number = ap (λ (w : Step). w.number) k-is;
              dwell = ap (λ (w : Step). w.dwell) k-is;
              short = ap (λ (w : Step). w.short) k-is ∙ told;
              state = refl;
            })
