-- When the grants of a mode are accepted. Assumes nothing.
use Rattle.std.proofs.Common.{◌≡◌, ℕ, zero, suc, ◌<◌, ◌≤◌, true, false, eqb, ltb, leb, List, get_or, Some, None, Option, sym, refl, ap, ◌∙◌, inl, inr, arith}
use Rattle.std.proofs.lemmas.Bool.{cases_eq, cases_lt, cases_Bool, eqb-true, ne_eqb, lt-leb, le-ltb, le-leb}
use Rattle.std.proofs.lemmas.Bool.Decides.{nat_tests}
use Rattle.std.proofs.lemmas.List.Elements.{All-from_get_or}
use Rattle.std.proofs.lemmas.List.Folds.{list_any_none}
use Rattle.lines.specs.Verdicts.{or_else}
use Rattle.schedule.specs.declared.Join.{Join}
use Rattle.schedule.specs.declared.Mode.{Mode}
use Rattle.schedule.specs.Modes.{grant_of, Sound}
use Rattle.switch.specs.declared.SwitchDecline.{SwitchDecline}
use Rattle.switch.specs.Calls.{joined_to, down_taken}
use Rattle.steps.specs.WholeMode.{front, entry_decline, grants_decline}
use Rattle.steps.proofs.Fronts.{front_before, front_past}

pub declined_none : (n : ℕ) (x : Mode) → grants_decline n x 0 ≡ None
unfolding grants_decline
declined_none n x = refl

or_none : {E : Type 0} (p q : Option E) → p ≡ None → or_else p q ≡ q
or_none None q e = refl
or_none (Some a) q e = let z : ◌≡◌ {A = ℕ} 0 1 = cc in absurd (omega arith)

pub declined_more : (n : ℕ) (x : Mode) (i : ℕ) → grants_decline n x i ≡ None → grants_decline n x (suc i) ≡ entry_decline n x.dwell (front i x.row) i (grant_of x i)
unfolding grants_decline
declined_more n x i free = or_none (grants_decline n x i) _ free

-- the first decline stays the first
pub declined_stays : (n : ℕ) (x : Mode) (i k : ℕ) (e : SwitchDecline) → grants_decline n x i ≡ Some e → i ≤ k → grants_decline n x k ≡ Some e
unfolding grants_decline
declined_stays n x i zero e is l = let z : i ≡ 0 = omega arith in sym (ap (grants_decline n x) z) ∙ is
declined_stays n x i (suc k) e is l =
    elim (cases_eq i (suc k)) [
      | inl same ↦ sym (ap (grants_decline n x) same) ∙ is
      | inr ne ↦ (let before : grants_decline n x k ≡ Some e = declined_stays n x i k e is (omega arith) in ap (λ o. or_else o (entry_decline n x.dwell (front k x.row) k (grant_of x k))) before)
    ]

or_parts_none : {E : Type 0} (p q : Option E) → or_else p q ≡ None → (p ≡ None) × (q ≡ None)
or_parts_none None q e = (refl, e)
or_parts_none (Some a) q e = let z : ◌≡◌ {A = ℕ} 0 1 = cc in absurd (omega arith)

entry_inside : (n d : ℕ) (row : List (Option Join)) (i : ℕ) (o : Option Join) → n ≤ i → entry_decline n d row i o ≡ None → o ≡ None
entry_inside n d row i None l is = refl
entry_inside n d row i (Some y) l is = let up : leb n i ≡ true = le-leb n i l in let z : ◌≡◌ {A = ℕ} 0 1 = grind (arith, nat_tests) in absurd (omega arith)

-- where all grants are accepted, no uplink has one that the switch does not have
pub accepted_inside : (n : ℕ) (x : Mode) (k : ℕ) → grants_decline n x k ≡ None → (i : ℕ) → i < k → n ≤ i → grant_of x i ≡ None
unfolding grants_decline
accepted_inside n x zero free i l past = absurd (omega arith)
accepted_inside n x (suc k) free i l past =
    let parts = or_parts_none (grants_decline n x k) _ free in
    elim (cases_eq i k) [
      | inl same ↦ rw same (entry_inside n x.dwell (front k x.row) k (grant_of x k) (omega arith) parts.1)
      | inr ne ↦ accepted_inside n x k parts.0 i (omega arith) past
    ]

-- no entry is joined to the downlink
not_taken : (j : ℕ) (row : List (Option Join)) → ((h : ℕ) → joined_to j (get_or row h None) ≡ false) → down_taken j row ≡ false
not_taken j row each = list_any_none (joined_to j) row (All-from_get_or (λ x. joined_to j x ≡ false) row None (λ h l. each h))

-- an entry that is joined to the downlink is a grant there
joined : (o : Option Join) (j : ℕ) → joined_to j o ≡ true → (y : Join) × (o ≡ Some y) × (y.down.0 ≡ j)
joined None j is = let z : ◌≡◌ {A = ℕ} 0 1 = cc in absurd (omega arith)
joined (Some y) j is = (y, refl, eqb-true y.down.0 j is)

module _ (n : ℕ) (x : Mode) (s : Sound n x) where
  -- no lower uplink of a mode that keeps the rules has the downlink of uplink i
  free_down : (i : ℕ) (y : Join) → grant_of x i ≡ Some y → (h : ℕ) → joined_to y.down.0 (get_or (front i x.row) h None) ≡ false
  free_down i y is h =
      elim (cases_lt h i) [
        | inl l ↦ elim (cases_Bool (joined_to y.down.0 (grant_of x h))) [
          | inl taken ↦ (let g = joined (grant_of x h) y.down.0 taken in let same : h ≡ i = s.apart h i g.0 y g.1 is g.2 in absurd (omega arith))
          | inr free ↦ ap (joined_to y.down.0) (front_before i h x.row l) ∙ free
        ]
        | inr l ↦ ap (joined_to y.down.0) (front_past i h x.row l)
      ]

  entry_sound : (i : ℕ) (o : Option Join) → grant_of x i ≡ o → entry_decline n x.dwell (front i x.row) i o ≡ None
  entry_sound i None is = refl
  entry_sound i (Some y) is =
      let up : leb n i ≡ false = lt-leb n i (s.uplinks i y is) in
      let down : leb n y.down.0 ≡ false = lt-leb n y.down.0 (s.downlinks i y is) in
      let some : eqb y.units 0 ≡ false = ne_eqb y.units 0 (λ z. let p = s.some i y is in omega arith) in
      let within : ltb x.dwell y.units ≡ false = le-ltb x.dwell y.units (s.within i y is) in
      let own : get_or (front i x.row) i None ≡ None = front_past i i x.row (omega arith) in
      let other : down_taken y.down.0 (front i x.row) ≡ false = not_taken y.down.0 (front i x.row) (free_down i y is) in
      rw (up, down, some, within, own, other)

  -- the grants of a mode that keeps the rules are all accepted
  pub sound_accepted : (k : ℕ) → grants_decline n x k ≡ None
  sound_accepted zero = declined_none n x
  sound_accepted (suc k) = declined_more n x k (sound_accepted k) ∙ entry_sound k (grant_of x k) refl
