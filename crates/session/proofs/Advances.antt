-- A session's plan, from mode to mode. Assumes nothing.
use Rattle.std.proofs.Common.{◌≡◌, ℕ, ◌+◌, ◌-◌, ◌<◌, ◌≤◌, Bool, cond, ◌⊎◌, List, [], ◌∷◌, length, get_or, drop, Some, None, Option, sym, refl, ap, ◌∙◌, subst, inl, inr, arith}
use Rattle.std.proofs.lemmas.Bool.Decides.{nat_tests}
use Rattle.std.proofs.lemmas.Bool.{cases_lt, lt-ltb, le-ltb, eq-eqb}
use Rattle.std.proofs.lemmas.List.{drop_more, drop_all, get_or_past}
use Rattle.lines.specs.Matrix.{Matrix}
use Rattle.schedule.specs.declared.Join.{Join}
use Rattle.schedule.specs.declared.Mode.{Mode}
use Rattle.schedule.specs.Modes.{Sound, AllSound, Serves, units_to, grant_of, granted, span, grants}
use Rattle.schedule.proofs.Modes.{granted_inside}
use Rattle.owed.specs.declared.matrix.Owed.{Owed}
use Rattle.owed.specs.Calls.{lines_of, units_of}
use Rattle.switch.specs.declared.Outcome.{Outcome}
use Rattle.switch.specs.Meaning.{most_lines}
use Rattle.switch.specs.Calls.{CarriesAt, carried_to}
use Rattle.planning.specs.declared.plan.Plan.{Plan}
use Rattle.planning.specs.Plans.{plan_lines, plan_modes}
use Rattle.planning.specs.Kept.{no_mode, mode_at}
use Rattle.planning.proofs.Keeping.{mode_kept}
use Rattle.law.specs.States.{idle, planned, onward}
use Rattle.law.specs.Runs.{carried_by}
use Rattle.session.specs.declared.state.State.{State}
use Rattle.session.specs.declared.state.State.TheVariants.{Idle, Planned}
use Rattle.session.specs.declared.state.Session.{Session}
use Rattle.session.specs.Standing.{left_of, length_of, place_of, count_of, lines_for, standing, standing_on, onward_of}

-- what a session keeps of its plan
pub record Good (o : Owed) (st : State) : Type 0 where
  pub next : place_of st < count_of st
  pub length : length_of st ≡ span (left_of st)
  pub within : (a b : ℕ) → grants (left_of st) a b ≤ units_of o a b
  pub lines : lines_for (lines_of o) st ≡ lines_of o

pub good_of : {S E : Type 0} (s : Session S E) (st : State) → s.state ≡ st → Good s.owed st
good_of s st e = subst (λ (x : State). Good s.owed x) e (record { next = s.next; length = s.length; within = s.within; lines = s.lines })

-- without a plan a session keeps nothing
pub good_idle : (o : Owed) (st : State) → st ≡ Idle → Good o st
good_idle o st e = subst (λ (x : State). Good o x) (sym e) (record { next = omega arith; length = refl; within = λ a b. omega arith; lines = refl })

-- on a switch with the lines that units are owed on, the plan stands as it is
pub stands_as_is : (n l : ℕ) (st : State) → n ≡ l → standing_on n l st ≡ standing st
stands_as_is n l Idle e = refl
stands_as_is n l (Planned p place left) e = ap (λ (x : Bool). cond x (planned place (drop place (plan_modes p))) idle) (eq-eqb n l e)

-- an uplink carries no more than it was granted
carried_le : (g : Option Join) (o : Option Outcome) (j : ℕ) → CarriesAt g o → carried_to j o ≤ units_to j g
carried_le None None j h = omega arith
carried_le None (Some o) j h = absurd h
carried_le (Some x) None j h = absurd h
carried_le (Some x) (Some o) j h =
    let d : o.join.down.0 ≡ x.down.0 = ap (λ (y : Join). y.down.0) h.0 in
    let l : o.carried ≤ x.units = h.1 in
    grind (arith, nat_tests, d, l)

pub carried_within : (m : Mode) (os : List (Option Outcome)) → length os ≡ most_lines → ((i : ℕ) → i < most_lines → CarriesAt (grant_of m i) (get_or os i None)) → (a b : ℕ) → carried_by os a b ≤ granted m a b
carried_within m os sixteen carry a b =
    elim (cases_lt a most_lines) [
      | inl h ↦ carried_le (grant_of m a) (get_or os a None) b (carry a h)
      | inr h ↦ let z : carried_by os a b ≡ 0 = ap (carried_to b) (get_or_past os a None (omega arith)) in omega arith
    ]

-- the mode m is the next one of a plan
module _ (o : Owed) (p : Plan) (place left : ℕ) (good : Good o (Planned p place left)) (m : Mode) (is : m ≡ mode_at (plan_modes p) place) where
  abbrev rest : List Mode
  rest = drop (place + 1) (plan_modes p)

  pub left_next : drop place (plan_modes p) ≡ m ∷ rest
  left_next = drop_more (plan_modes p) place no_mode good.next ∙ ap (λ (x : Mode). x ∷ rest) (sym is)

  pub span_next : left ≡ m.dwell + span rest
  span_next = good.length ∙ ap span left_next

  pub grants_next : (a b : ℕ) → granted m a b + grants rest a b ≤ units_of o a b
  grants_next a b = subst (λ (l : List Mode). grants l a b ≤ units_of o a b) left_next (good.within a b)

  pub next_sound : Sound (plan_lines p) m
  next_sound = subst (λ (x : Mode). Sound (plan_lines p) x) (sym is) (mode_kept (plan_lines p) (plan_modes p) p.dwells p.fits p.units p.single place good.next)

  abbrev after : State
  after = onward_of m.dwell (Planned p place left)

  by_end : (P : State → Type 0) → (place + 1 < length (plan_modes p) → P (Planned p (place + 1) (left - m.dwell))) → (length (plan_modes p) ≤ place + 1 → P Idle) → P after
  by_end P on off =
      elim (cases_lt (place + 1) (length (plan_modes p))) [
        | inl h ↦ subst (λ (x : Bool). P (cond x (Planned p (place + 1) (left - m.dwell)) Idle)) (sym (lt-ltb (place + 1) (length (plan_modes p)) h)) (on h)
        | inr h ↦ subst (λ (x : Bool). P (cond x (Planned p (place + 1) (left - m.dwell)) Idle)) (sym (le-ltb (place + 1) (length (plan_modes p)) h)) (off h)
      ]

  over : length (plan_modes p) ≤ place + 1 → rest ≡ []
  over h = drop_all (place + 1) (plan_modes p) h

  pub goes_on : standing after ≡ onward place rest
  goes_on = by_end (λ (x : State). standing x ≡ onward place rest)
      (λ h. subst (λ (l : List Mode). planned (place + 1) l ≡ onward place l) (sym (drop_more (plan_modes p) (place + 1) no_mode h)) refl)
      (λ h. sym (ap (onward place) (over h)))

  pub good_on : (took : Matrix) → ((a b : ℕ) → took a b ≤ granted m a b) → (o' : Owed) → lines_of o' ≡ lines_of o → ((a b : ℕ) → units_of o' a b ≡ units_of o a b - took a b) → Good o' after
  good_on took le o' lines units = by_end (λ (x : State). Good o' x)
      (λ h. record {
        next = h;
        length = omega (arith, span_next);
        within = λ a b. omega (arith, grants_next a b, le a b, units a b);
        lines = good.lines ∙ sym lines;
      })
      (λ h. record { next = omega arith; length = refl; within = λ a b. omega arith; lines = refl })

-- a schedule that serves what is owed grants no more
grants_outside : (n : ℕ) (ms : List Mode) → AllSound n ms → (a b : ℕ) → (n ≤ a) ⊎ (n ≤ b) → grants ms a b ≡ 0
grants_outside n [] s a b h = refl
grants_outside n (m ∷ ms) s a b h =
    let none : granted m a b ≡ 0 = elim (cases_lt 0 (granted m a b)) [
      | inl l ↦ let i = granted_inside n m s.0 a b l in elim h [ inl x ↦ absurd (omega (arith, i.0)) | inr x ↦ absurd (omega (arith, i.1)) ]
      | inr l ↦ omega arith
    ] in
    omega (arith, grants_outside n ms s.1 a b h)

pub serves_within : (n : ℕ) (ms : List Mode) (owed : Matrix) → Serves n ms owed → (a b : ℕ) → grants ms a b ≤ owed a b
serves_within n ms owed s a b =
    elim (cases_lt a n) [
      | inl h ↦ elim (cases_lt b n) [
        | inl k ↦ omega (arith, s.exact a b h k)
        | inr k ↦ omega (arith, grants_outside n ms s.sound a b (inr k))
      ]
      | inr h ↦ omega (arith, grants_outside n ms s.sound a b (inl h))
    ]
