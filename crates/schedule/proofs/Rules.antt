-- A mode keeps the rules where each of its grants does. Assumes nothing.
use Rattle.std.proofs.Common.{◌≡◌, ◌≢◌, ℕ, ◌+◌, ◌<◌, ◌≤◌, Bool, true, false, Option, length, take, get_or, Some, None, sym, refl, ◌∙◌, inl, inr, arith}
use Rattle.std.specs.Bool.{Decides, MatchBool}
use Rattle.std.specs.List.{AllWithin, HoldsAt, enumerate_from}
use Rattle.std.proofs.lemmas.List.FromFn.{get_or-enumerate_from, length-enumerate_from}
use Rattle.std.proofs.lemmas.List.{get_or_past, get_or-take, length-take}
use Rattle.std.proofs.lemmas.Bool.{cases_lt, cases_order, false≢true}
use Rattle.schedule.specs.declared.Join.{Join}
use Rattle.schedule.specs.declared.Mode.{Mode}
use Rattle.schedule.specs.Modes.{grant_of, longest_dwell, Sound}
use Rattle.schedule.specs.Rules.{Free, Kept}

none_some : (x : Join) → None ≡ Some x → ⊥
none_some x e = let z : ◌≡◌ {A = ℕ} 0 1 = cc in omega arith

module _ (m : Mode) (i : ℕ) where
  -- a grant of the uplinks below i is found among the first i
  below_kept : (k : ℕ) → k < length (take i m.row) → (k < i) × (get_or (take i m.row) k None ≡ grant_of m k)
  below_kept k l = (let inside : k < i = omega (arith, length-take i m.row) in (inside, get_or-take i m.row k None inside))

  -- a grant is for another downlink than j, or for j
  abbrev pub Elsewhere : ℕ → Option Join → Type 0
  Elsewhere j g = (y : Join) → g ≡ Some y → y.down.0 ≢ j

  abbrev pub There : ℕ → Option Join → Type 0
  There j g = (y : Join) × (g ≡ Some y) × (y.down.0 ≡ j)

  pub free_told : (j : ℕ) (r : Bool) → MatchBool r (AllWithin (Elsewhere j) (take i m.row) 0 (length (take i m.row))) ((k : ℕ) × (k < length (take i m.row)) × HoldsAt (There j) (take i m.row) k) → Decides r (Free m i j)
  free_told j true all = (
    (λ _ h y l g.
        elim (cases_lt h (length (take i m.row))) [
          | inl inside ↦ all h None (omega arith) inside y ((below_kept h inside).1 ∙ g)
          | inr past ↦ absurd (none_some y (sym (get_or_past m.row h None (omega (arith, length-take i m.row))) ∙ g))
        ]),
    λ _. refl,
  )
  free_told j false (k, l, there) =
      ((λ e. absurd (false≢true e)), λ free. (let t = there None in absurd (free k t.0 (below_kept k l).0 (sym (below_kept k l).1 ∙ t.1) t.2)))

module _ (n : ℕ) (m : Mode) where
  -- each grant of a sound mode keeps the rules
  pub sound_kept : Sound n m → (i : ℕ) (x : Join) → grant_of m i ≡ Some x → Kept n m i x
  sound_kept s i x g =
      record {
        fits = record { uplink = s.uplinks i x g; downlink = s.downlinks i x g; some = s.some i x g; within = s.within i x g };
        free = λ h y l k e. (let same : h ≡ i = s.apart h i y x k g e in omega arith);
      }

  -- the grant of an uplink keeps the rules, or breaks them
  abbrev pub Keeps : ℕ × Option Join → Type 0
  Keeps p = (y : Join) → p.1 ≡ Some y → Kept n m p.0 y

  abbrev pub Breaks : ℕ × Option Join → Type 0
  Breaks p = (y : Join) × (p.1 ≡ Some y) × (Kept n m p.0 y → ⊥)

  row_at : (k : ℕ) → k < length m.row → get_or (enumerate_from 0 m.row) k (0, None) ≡ (k, grant_of m k)
  row_at k l = get_or-enumerate_from 0 m.row k (0, None) l ∙ (let e : 0 + k ≡ k = omega arith in rw e refl)

  -- what a walk over the row told
  pub grants_told : (r : Bool) → MatchBool r (AllWithin Keeps (enumerate_from 0 m.row) 0 (length (enumerate_from 0 m.row))) ((k : ℕ) × (k < length (enumerate_from 0 m.row)) × HoldsAt Breaks (enumerate_from 0 m.row) k) → Decides r ((i : ℕ) (x : Join) → grant_of m i ≡ Some x → Kept n m i x)
  grants_told true all = (
    (λ _ i x g.
        elim (cases_lt i (length m.row)) [
          | inl inside ↦ rw (row_at i inside) at (all i (0, None) (omega arith) (omega (arith, length-enumerate_from 0 m.row))) x g
          | inr past ↦ absurd (none_some x (sym (get_or_past m.row i None past) ∙ g))
        ]),
    λ _. refl,
  )
  grants_told false (k, l, breaks) = (
    (λ e. absurd (false≢true e)),
    λ kept.
        let inside : k < length m.row = omega (arith, length-enumerate_from 0 m.row) in
        let b = rw (row_at k inside) at (breaks (0, None)) in
        absurd (b.2 (kept k b.0 b.1)),
  )

  -- grants that keep the rules make a sound mode
  pub kept_sound : ((i : ℕ) (x : Join) → grant_of m i ≡ Some x → Kept n m i x) → 1 ≤ m.dwell → m.dwell ≤ longest_dwell → Sound n m
  kept_sound all lasts ends =
      record {
        lasts = lasts;
        ends = ends;
        uplinks = λ i x g. (all i x g).fits.uplink;
        downlinks = λ i x g. (all i x g).fits.downlink;
        some = λ i x g. (all i x g).fits.some;
        within = λ i x g. (all i x g).fits.within;
        apart = λ i h x y g k e. elim (cases_order i h) [
          | inl same ↦ same
          | inr (inl l) ↦ absurd ((all h y k).free i x l g e)
          | inr (inr l) ↦ absurd ((all i x g).free h y l k (sym e))
        ];
      }
