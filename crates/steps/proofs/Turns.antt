-- The grants of a mode, made one by one by rising uplink. Assumes nothing.
use Rattle.std.proofs.Common.{◌≡◌, ℕ, suc, ◌+◌, ◌<◌, ◌≤◌, length, set, replicate, Some, None, Ok, Err, Option, Result, sym, refl, ap, ◌∙◌, inl, inr, add-one, arith}
use Rattle.std.proofs.lemmas.List.{get_or_past}
use Rattle.std.proofs.lemmas.Bool.{cases_lt}
use Rattle.lines.specs.Matrix.{uplink}
use Rattle.lines.specs.Verdicts.{or_same, answered}
use Rattle.schedule.specs.declared.Join.{Join}
use Rattle.schedule.specs.declared.Mode.{Mode}
use Rattle.schedule.specs.Modes.{grant_of}
use Rattle.switch.specs.declared.SwitchDecline.{SwitchDecline}
use Rattle.switch.specs.Meaning.{Meaning, no_grants}
use Rattle.switch.specs.Calls.{mode, with_mode, grant_decline, grants}
use Rattle.driver.specs.declared.DriverDecline.{DriverDecline}
use Rattle.driver.specs.Answers.{round}
use Rattle.steps.specs.WholeMode.{front, entry_decline, grants_decline, row_declined, Granted}
use Rattle.steps.proofs.Fronts.{front_none, front_more, front_still, front_all}
use Rattle.steps.proofs.Rules.{declined_none, declined_more, declined_stays, accepted_inside}

-- a mode of x's dwell with the first i of its entries
abbrev pub partly : Mode → ℕ → Mode
partly x i = mode x.dwell (front i x.row)

-- the first i entries were accepted, and nothing else has changed
pub record SoFar (x : Mode) (i : ℕ) (m mᵢ : Meaning) : Type 0 where
  pub accepted : grants_decline m.lines x i ≡ None
  pub now_has : mᵢ ≡ with_mode (Some (partly x i)) m

module _ (x : Mode) (m : Meaning) (long : length x.row ≡ 16) where
  pub begins : m.mode ≡ Some (mode x.dwell no_grants) → SoFar x 0 m m
  begins fresh =
      let none : no_grants ≡ front 0 x.row = sym (front_none x.row ∙ ap (λ k. replicate k None) long) in
      record { accepted = declined_none m.lines x; now_has = ap (λ o. with_mode o m) (fresh ∙ ap (λ r. Some (mode x.dwell r)) none) }

  -- what entry i meets is what the switch answers to its grant
  meets : (i : ℕ) (mᵢ : Meaning) (y : Join) → SoFar x i m mᵢ → grant_of x i ≡ Some y → grants_decline m.lines x (suc i) ≡ grant_decline (uplink i) y.down y.units mᵢ
  meets i mᵢ y so is =
      declined_more m.lines x i so.accepted
      ∙ ap (entry_decline m.lines x.dwell (front i x.row) i) is
      ∙ sym (ap (grant_decline (uplink i) y.down y.units) so.now_has)

  pub idles : (i : ℕ) (mᵢ : Meaning) → SoFar x i m mᵢ → grant_of x i ≡ None → SoFar x (i + 1) m mᵢ
  idles i mᵢ so is =
      rw add-one (record {
        accepted = declined_more m.lines x i so.accepted ∙ ap (entry_decline m.lines x.dwell (front i x.row) i) is;
        now_has = so.now_has ∙ ap (λ r. with_mode (Some (mode x.dwell r)) m) (sym (front_still i x.row is));
      })

  pub grows : (i : ℕ) (mᵢ m' : Meaning) (y : Join) → i < 16 → SoFar x i m mᵢ → grant_of x i ≡ Some y → grant_decline (uplink i) y.down y.units mᵢ ≡ None → m' ≡ or_same (grant_decline (uplink i) y.down y.units mᵢ) (grants (uplink i) y.down y.units mᵢ) mᵢ → SoFar x (i + 1) m m'
  grows i mᵢ m' y l so is free after =
      let next : m' ≡ grants (uplink i) y.down y.units mᵢ = rw free at after in
      let inside : i < length x.row = omega arith in
      let row' : set (front i x.row) i (Some y) ≡ front (suc i) x.row = ap (set (front i x.row) i) (sym is) ∙ sym (front_more i x.row inside) in
      rw add-one (record {
        accepted = meets i mᵢ y so is ∙ free;
        now_has = next ∙ ap (grants (uplink i) y.down y.units) so.now_has ∙ ap (λ r. with_mode (Some (mode x.dwell r)) m) row';
      })

  pub stops : (i : ℕ) (mᵢ : Meaning) (y : Join) (e : SwitchDecline) → i < 16 → SoFar x i m mᵢ → grant_of x i ≡ Some y → grant_decline (uplink i) y.down y.units mᵢ ≡ Some e → row_declined m.lines x ≡ Some e
  stops i mᵢ y e l so is no_more = declined_stays m.lines x (suc i) 16 e (meets i mᵢ y so is ∙ no_more) l

  -- a declined grant leaves the mode open with the entries before it
  pub stopped : (i : ℕ) (mᵢ m' : Meaning) (y : Join) (e : SwitchDecline) → i < 16 → SoFar x i m mᵢ → grant_of x i ≡ Some y → grant_decline (uplink i) y.down y.units mᵢ ≡ Some e → m' ≡ or_same (grant_decline (uplink i) y.down y.units mᵢ) (grants (uplink i) y.down y.units mᵢ) mᵢ → Granted (row_declined m.lines x) x m m'
  stopped i mᵢ m' y e l so is no_more after =
      let same : m' ≡ with_mode (Some (partly x i)) m = (rw no_more at after) ∙ so.now_has in
      rw (stops i mᵢ y e l so is no_more, same) (refl, refl)

  pub ends : (i : ℕ) (mᵢ : Meaning) → SoFar x i m mᵢ → i ≡ 16 → row_declined m.lines x ≡ None
  ends i mᵢ so all = ap (grants_decline m.lines x) (sym all) ∙ so.accepted

  -- all entries were accepted
  pub ended : (i : ℕ) (mᵢ : Meaning) → SoFar x i m mᵢ → i ≡ 16 → Granted (row_declined m.lines x) x m mᵢ
  ended i mᵢ so all =
      let past : length x.row ≤ i = omega arith in
      let free : row_declined m.lines x ≡ None = ends i mᵢ so all in
      let has : mᵢ ≡ with_mode (Some x) m = so.now_has ∙ ap (λ r. with_mode (Some (mode x.dwell r)) m) (front_all i x.row past) in
      rw (free, has) (refl, record { stands = refl; inside = λ k l. elim (cases_lt k 16) [ inl few ↦ accepted_inside m.lines x 16 free k few l | inr many ↦ get_or_past x.row k None (omega arith) ] })

-- what an answer of the driver tells of the switch's decline
pub was_accepted : (o : Option SwitchDecline) {r : Result Unit DriverDecline} → r ≡ answered (round o) → r ≡ Ok tt → o ≡ None
was_accepted None is was = refl
was_accepted (Some e) is was = let z : ◌≡◌ {A = ℕ} 0 1 = cc in absurd (omega arith)

pub was_declined : (o : Option SwitchDecline) {e : DriverDecline} {r : Result Unit DriverDecline} → r ≡ answered (round o) → r ≡ Err e → o ≡ Some e.«switch»
was_declined None is was = let z : ◌≡◌ {A = ℕ} 0 1 = cc in absurd (omega arith)
was_declined (Some d) {e} is was = let same : record { «switch» = d } ≡ e = cc in ap (λ (x : DriverDecline). Some x.«switch») same
