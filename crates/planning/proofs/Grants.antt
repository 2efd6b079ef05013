-- The grants of a mode that is made from a matching. Assumes nothing.
use Rattle.std.proofs.Common.{◌≡◌, ℕ, ◌<◌, ◌≤◌, min, Bool, true, false, cond, eqb, ltb, List, length, get_or, Some, None, Option, sym, refl, ap, ◌∙◌, inl, inr, arith}
use Rattle.std.proofs.lemmas.List.FromFn.{get_or-map-range_with_len, length-map-range_with_len, fill_by_all}
use Rattle.std.proofs.lemmas.List.{get_or_past}
use Rattle.std.proofs.lemmas.Bool.{cases_eq, cases_lt, lt-ltb, le-ltb, eq-eqb, ne_eqb, cond-true, cond-false}
use Rattle.lines.specs.declared.Downlink.{Downlink}
use Rattle.lines.specs.Matrix.{Matrix}
use Rattle.matching.specs.Answers.{unused, mate_of}
use Rattle.schedule.specs.declared.Join.{Join}
use Rattle.schedule.specs.Modes.{longest_dwell, grant_of, units_to, Sound}
use Rattle.planning.specs.Making.{dwell_of, grant_for, grant_at, grant_row, mode_of}
use Rattle.planning.proofs.Rounds.{Peel, hit_here, hit_else, dwell_pos}

-- rows that are the mode's, uplink by uplink
pub row_is : (n d : ℕ) (q : Matrix) (mates : List Downlink) (row : List (Option Join)) → length row ≡ 16 → ((i : ℕ) → i < 16 → get_or row i None ≡ grant_at n d q mates i) → row ≡ grant_row n d q mates
unfolding grant_row
row_is n d q mates row long each = fill_by_all (grant_at n d q mates) row 16 None long each

pub row_long : (n d : ℕ) (q : Matrix) (mates : List Downlink) → length (grant_row n d q mates) ≡ 16
unfolding grant_row
row_long n d q mates = length-map-range_with_len (grant_at n d q mates) 0 16

module _ (n d : ℕ) (q : Matrix) (mates : List Downlink) (few : n ≤ 16) where
  -- uplinks from n up have no grant
  pub no_grant : (i : ℕ) → n ≤ i → grant_at n d q mates i ≡ None
  no_grant i l = cond-false (ltb i n) (grant_for (get_or mates i unused) (min d (q i (mate_of mates i)))) None (le-ltb i n l)

  pub some_grant : (i : ℕ) → i < n → grant_at n d q mates i ≡ grant_for (get_or mates i unused) (min d (q i (mate_of mates i)))
  some_grant i l = cond-true (ltb i n) (grant_for (get_or mates i unused) (min d (q i (mate_of mates i)))) None (lt-ltb i n l)

  -- it needs only the units at the mate
  pub same_grant : (q' : Matrix) (i : ℕ) → q i (mate_of mates i) ≡ q' i (mate_of mates i) → grant_at n d q mates i ≡ grant_at n d q' mates i
  same_grant q' i e = ap (λ u. cond (ltb i n) (grant_for (get_or mates i unused) (min d u)) None) e

  pub row_at : (i : ℕ) → get_or (grant_row n d q mates) i None ≡ grant_at n d q mates i
  unfolding grant_row
  row_at i =
      elim (cases_lt i 16) [
        | inl l ↦ get_or-map-range_with_len (grant_at n d q mates) 0 16 i i None l (omega arith)
        | inr over ↦ get_or_past (grant_row n d q mates) i None (omega (arith, row_long n d q mates)) ∙ sym (no_grant i (omega arith))
      ]

  -- the units of a grant, and where it leads
  abbrev Granted : ℕ → Join → Type 0
  Granted i x = (i < n) × (x.down ≡ get_or mates i unused) × (x.units ≡ min d (q i (mate_of mates i))) × (0 < x.units)

  grant_some : (j : Downlink) (u : ℕ) (x : Join) → grant_for j u ≡ Some x → (x.down ≡ j) × (x.units ≡ u) × (0 < x.units)
  grant_some j u x e =
      elim (cases_eq u 0) [
        | inl z ↦
            (let none : grant_for j u ≡ None = cond-true (eqb u 0) None (Some (record { down = j; units = u })) (eq-eqb u 0 z) in
            let wrong : ◌≡◌ {A = ℕ} 0 1 = cc in
            absurd (omega arith))
        | inr ne ↦
            (let some : grant_for j u ≡ Some (record { down = j; units = u }) = cond-false (eqb u 0) None (Some (record { down = j; units = u })) (ne_eqb u 0 ne) in
            let down : x.down ≡ j = cc in
            let units : x.units ≡ u = cc in
            (down, units, omega arith))
      ]

  pub granted_is : (i : ℕ) (x : Join) → get_or (grant_row n d q mates) i None ≡ Some x → Granted i x
  granted_is i x e =
      elim (cases_lt i n) [
        | inl l ↦
            (let g = grant_some (get_or mates i unused) (min d (q i (mate_of mates i))) x (sym (some_grant i l) ∙ sym (row_at i) ∙ e) in
            (l, g.0, g.1, g.2))
        | inr over ↦
            (let none = sym (row_at i) ∙ e in
            let none' = no_grant i over in
            let wrong : ◌≡◌ {A = ℕ} 0 1 = cc in
            absurd (omega arith))
      ]

  for_units : (j : Downlink) (u b : ℕ) → units_to b (grant_for j u) ≡ cond (eqb j.0 b) u 0
  for_units j u b =
      elim (cases_eq u 0) [
        | inl z ↦ ap (units_to b) (cond-true (eqb u 0) None (Some (record { down = j; units = u })) (eq-eqb u 0 z)) ∙ sym (either (eqb j.0 b) z)
        | inr ne ↦ ap (units_to b) (cond-false (eqb u 0) None (Some (record { down = j; units = u })) (ne_eqb u 0 ne))
      ]
    where
      either : (t : Bool) → u ≡ 0 → cond t u 0 ≡ 0
      either true z = z
      either false z = refl

  -- what a mode grants at a crosspoint: the smaller of the dwell and its units, where it is matched
  pub units_are : (i j : ℕ) → i < n → units_to j (get_or (grant_row n d q mates) i None) ≡ cond (eqb (mate_of mates i) j) (min d (q i j)) 0
  units_are i j l =
      ap (units_to j) (row_at i ∙ some_grant i l)
      ∙ for_units (get_or mates i unused) (min d (q i (mate_of mates i))) j
      ∙ elim (cases_eq (mate_of mates i) j) [
        | inl e ↦ hit_here (mate_of mates i) j _ e ∙ ap (λ x. min d (q i x)) e ∙ sym (hit_here (mate_of mates i) j _ e)
        | inr ne ↦ hit_else (mate_of mates i) j _ ne ∙ sym (hit_else (mate_of mates i) j _ ne)
      ]

  pub no_units : (i j : ℕ) → n ≤ i → units_to j (get_or (grant_row n d q mates) i None) ≡ 0
  no_units i j l = ap (units_to j) (row_at i ∙ no_grant i l)

-- a mode made from a matching keeps the rules
pub mode_sound : (n b : ℕ) (p q : Matrix) (mates : List Downlink) → n ≤ 16 → Peel n p (mate_of mates) (dwell_of n p mates) → dwell_of n p mates ≤ longest_dwell → Sound n (mode_of n p q mates)
mode_sound n b p q mates few peel short = record {
  lasts = dwell_pos n p (mate_of mates) d peel;
  ends = short;
  uplinks = λ i x e. (is i x e).0;
  downlinks = λ i x e. omega (arith, at i x e, peel.matching.inside i (is i x e).0);
  some = λ i x e. (is i x e).3;
  within = λ i x e. omega (arith, (is i x e).2);
  apart = λ i h x y ei eh same. peel.matching.apart i h (is i x ei).0 (is h y eh).0 (sym (at i x ei) ∙ same ∙ at h y eh);
}
  where
    d : ℕ
    d = dwell_of n p mates

    is : (i : ℕ) (x : Join) → grant_of (mode_of n p q mates) i ≡ Some x → Granted n d q mates few i x
    is i x e = granted_is n d q mates few i x e

    at : (i : ℕ) (x : Join) → grant_of (mode_of n p q mates) i ≡ Some x → x.down.0 ≡ mate_of mates i
    at i x e = ap (λ (j : Downlink). j.0) (is i x e).1
