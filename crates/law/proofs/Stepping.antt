-- One mode run, as a session shows it. Assumes nothing.
use Rattle.std.proofs.Common.{◌≡◌, ℕ, ◌+◌, ◌<◌, ◌≤◌, List, [], ◌∷◌, length, get_or, Some, None, Ok, Err, Option, sym, refl, ap, ◌∙◌, subst, inl, inr, arith}
use Rattle.std.proofs.lemmas.Bool.{cases_lt}
use Rattle.std.proofs.lemmas.List.{get_or_past}
use Rattle.schedule.specs.declared.Join.{Join}
use Rattle.schedule.specs.declared.Mode.{Mode}
use Rattle.schedule.specs.Modes.{Sound, grant_of}
use Rattle.switch.specs.declared.Outcome.{Outcome}
use Rattle.switch.specs.declared.SwitchDecline.{SwitchDecline}
use Rattle.switch.specs.Meaning.{Meaning, most_lines}
use Rattle.switch.specs.Calls.{CarriesAt}
use Rattle.driver.specs.declared.DriverDecline.{DriverDecline}
use Rattle.steps.specs.WholeMode.{start_decline, carries, StartOr, Runs}
use Rattle.law.specs.declared.call.Call.TheVariants.{Step}
use Rattle.runs.specs.declared.Shortfall.{Shortfall}
use Rattle.law.specs.declared.answer.Answer.TheVariants.{Stepped}
use Rattle.law.specs.declared.decline.SessionDecline.TheVariants.{Mode as OfMode}
use Rattle.law.specs.States.{State, Plan as Standing, planned, onward}
use Rattle.law.specs.Runs.{ModeRun, Advanced, carried_by, shortfall}
use Rattle.law.specs.Refusals.{of_mode, next_decline}
use Rattle.law.specs.Calls.{Maker, Does, does}
use Rattle.law.proofs.One.{next_free}

-- a mode ran, with these outcomes
pub record RanWhole (m : Mode) (u v : Meaning) (os : List (Option Outcome)) : Type 0 where
  pub starts : start_decline u ≡ None
  pub sixteen : length os ≡ most_lines
  pub carry : (i : ℕ) → i < most_lines → CarriesAt (grant_of m i) (get_or os i None)
  pub after : v ≡ carries m os u

-- a mode was declined
pub record NotRun (u v : Meaning) (d : DriverDecline) : Type 0 where
  pub stops : start_decline u ≡ Some d.«switch»
  pub after : v ≡ u

-- what the driver answers of a mode that keeps the rules tells which
pub whole_ran : (m : Mode) (u v : Meaning) (os : List (Option Outcome)) → Runs m u v (Ok os) → RanWhole m u v os
whole_ran m u v os h = by (start_decline u) refl h
  where
    by : (o : Option SwitchDecline) → start_decline u ≡ o → StartOr o m u v (Ok os) → RanWhole m u v os
    by None e k =
        let same : k.outcomes ≡ os = let a = k.answer in cc in
        subst (λ (x : List (Option Outcome)). RanWhole m u v x) same (record { starts = e; sixteen = k.sixteen; carry = k.carry; after = k.after })
    by (Some x) e k = let a = k.answer in let z : ◌≡◌ {A = ℕ} 0 1 = cc in absurd (omega arith)

pub whole_declined : (m : Mode) (u v : Meaning) (d : DriverDecline) → Runs m u v (Err d) → NotRun u v d
whole_declined m u v d h = by (start_decline u) refl h
  where
    by : (o : Option SwitchDecline) → start_decline u ≡ o → StartOr o m u v (Err d) → NotRun u v d
    by None e k = let a = k.answer in let z : ◌≡◌ {A = ℕ} 0 1 = cc in absurd (omega arith)
    by (Some x) e k = record { stops = e ∙ (let a = k.answer in cc); after = k.after }

-- a mode that keeps the rules grants nothing past the lines
no_grant : (n : ℕ) (m : Mode) → Sound n m → (i : ℕ) → n ≤ i → grant_of m i ≡ None
no_grant n m sound i h = absent (grant_of m i) (λ x e. omega (arith, sound.uplinks i x e))
  where
    absent : (o : Option Join) → ((x : Join) → o ≡ Some x → ⊥) → o ≡ None
    absent None h = refl
    absent (Some x) h = absurd (h x refl)

-- so it is enough to know what the sixteen uplinks carried
every_grant : (n : ℕ) (m : Mode) (os : List (Option Outcome)) → Sound n m → n ≤ most_lines → length os ≡ most_lines → ((i : ℕ) → i < most_lines → CarriesAt (grant_of m i) (get_or os i None)) → (i : ℕ) → CarriesAt (grant_of m i) (get_or os i None)
every_grant n m os sound few sixteen carry i =
    elim (cases_lt i most_lines) [
      | inl h ↦ carry i h
      | inr h ↦ subst (λ (g : Option Join). CarriesAt g (get_or os i None)) (sym (no_grant n m sound i (omega arith))) (subst (λ (o : Option Outcome). CarriesAt None o) (sym (get_or_past os i None (omega arith))) tt)
    ]

module _ (s t : State) (place : ℕ) (m : Mode) (rest : List Mode) (os : List (Option Outcome)) where
  abbrev pub mode_run : ModeRun
  mode_run = record { mode = m; outcomes = os; after = t }

  pub advanced_so : (n : ℕ) → Sound n m → n ≤ most_lines →
      s.plan ≡ planned place (m ∷ rest) → RanWhole m s.switch t.switch os → t.lines ≡ s.lines →
      ((a b : ℕ) → t.owed a b + carried_by os a b ≡ s.owed a b) → t.plan ≡ onward place rest →
      Advanced s mode_run
  advanced_so n sound few stood ran lines owed goes_on = record {
    place = place;
    rest = rest;
    stood = stood;
    starts = ran.starts;
    sixteen = ran.sixteen;
    carry = every_grant n m os sound few ran.sixteen ran.carry;
    lines = lines;
    owed = owed;
    goes_on = goes_on;
    switch = ran.after;
  }

pub next_declined : (s : State) (place : ℕ) (ms : List Mode) (d : DriverDecline) → s.plan ≡ planned place ms → start_decline s.switch ≡ Some d.«switch» → next_decline s.plan s.switch ≡ Some (OfMode place d)
next_declined s place ms d stood h = ap (λ (p : Standing). next_decline p s.switch) stood ∙ ap (of_mode place) h

module _ {M : Maker} (before after : List ℕ) (s t : State) (buffer : after ≡ before) where
  pub stepped_so : (r : ModeRun) (w : Advanced s r) (place dwell : ℕ) (x : Option Shortfall) → place ≡ w.place → dwell ≡ r.mode.dwell → x ≡ shortfall r.outcomes → t ≡ r.after → Does M Step (Stepped (record { number = place; dwell = dwell; short = x })) (r ∷ []) before after s t
  stepped_so r w place dwell x p d e same =
      does (next_free s r w) (record {
        run = r;
        advanced = w;
        answer = ap (λ (y : ℕ). Stepped (record { number = y; dwell = dwell; short = x })) p ∙ ap (λ (y : ℕ). Stepped (record { number = w.place; dwell = y; short = x })) d ∙ ap (λ (y : Option Shortfall). Stepped (record { number = w.place; dwell = r.mode.dwell; short = y })) e;
        runs = refl;
        buffer = buffer;
        state = same;
      })
