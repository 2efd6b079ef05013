-- The steps of a search for an augmenting path. Assumes nothing.
use Rattle.std.proofs.Common.{◌≡◌, ℕ, ◌<◌, ◌≤◌, true, false, not, ◌⊎◌, zero, suc, List, replicate, Option, Some, None, length, get_or, set, sym, refl, ap, ◌∙◌, subst, inl, inr, arith, get_or-set_other, get_or-set_same}
use Rattle.std.proofs.lemmas.Bool.{cases_Bool, cases_eq, both_ways, not-true, not_from_true, not_from_false}
use Rattle.lines.specs.Sets.{has, In}
use Rattle.lines.specs.Matrix.{uplink}
use Rattle.lines.specs.declared.Uplink.{Uplink}
use Rattle.lines.proofs.Counts.{count_fewer}
use Rattle.matching.specs.Supports.{in_rows}
use Rattle.augmenting.specs.Holders.{Holders, number_or_16, holder, Known, Picked, Apart, Idle, Tried, untried, Closed, Searched, Seated}

-- what is not tried now was not tried before
not_before : (t0 t : ℕ) → ((j : ℕ) → In t0 j → In t j) → (j : ℕ) → has t j ≡ false → has t0 j ≡ false
not_before t0 t up j f = elim (cases_Bool (has t0 j)) [ inl h ↦ absurd (both_ways (has t j) f (up j h)) | inr h ↦ h ]

module _ (row t0 t t1 d : ℕ) (f : Picked row t t1 d) (since : (k : ℕ) → In t0 k → In t k) where
  step_grows : (k : ℕ) → In t k → In t1 k
  step_grows k h = elim (cases_eq d k) [ inl e ↦ (let P : ℕ → Type 0 = λ z. In t1 z in subst P e f.now) | inr ne ↦ f.others k ne ∙ h ]

  pub all_grows : (k : ℕ) → In t0 k → In t1 k
  all_grows k h = step_grows k (since k h)

  pub new_at_first : has t0 d ≡ false
  new_at_first = not_before t0 t since d f.new

pub fewer : (t0 t1 d : ℕ) → d < 16 → ((k : ℕ) → In t0 k → In t1 k) → has t0 d ≡ false → In t1 d → untried t1 < untried t0
unfolding untried
fewer t0 t1 d lt grows new now =
    count_fewer 16 (λ k. not (has t1 k)) (λ k. not (has t0 k)) d lt
    (λ k l h. not_from_false (has t0 k) (not_before t0 t1 grows k (not-true (has t1 k) h)))
    (not_from_true (has t1 d) now) (not_from_false (has t0 d) new)

-- one more that is tried leaves fewer to try, for the search of its holder and after it
pub fewer_inside : (row t0 t t1 d : ℕ) → Picked row t t1 d → ((k : ℕ) → In t0 k → In t k) → untried t1 < untried t0
fewer_inside row t0 t t1 d f since = fewer t0 t1 d f.below (all_grows row t0 t t1 d f since) (new_at_first row t0 t t1 d f since) f.now

pub fewer_after : (row t t1 t2 d : ℕ) → Picked row t t1 d → ((k : ℕ) → In t1 k → In t2 k) → untried t2 < untried t
fewer_after row t t1 t2 d f on = fewer t t2 d f.below (λ k h. on k (all_grows row t t t1 d f (λ _ x. x) k h)) f.new (on d f.now)

pub closed_start : (rows : List ℕ) (hs : Holders) (t : ℕ) → Closed rows hs t t
closed_start rows hs t = record { grows = λ j h. h; held = λ j lt h f. absurd (both_ways (has t j) f h) }

-- the holder of downlink d could not move
pub closed_more : (rows : List ℕ) (hs : Holders) (row t0 t t1 t2 d : ℕ) → Closed rows hs t0 t → Picked row t t1 d → holder hs d < 16 → Searched rows hs (holder hs d) t1 t2 → Closed rows hs t0 t2
closed_more rows hs row t0 t t1 t2 d c f ld s =
    let on : (k : ℕ) → In t k → In t2 k = λ k h. s.0.grows k (step_grows row t0 t t1 d f c.grows k h) in
    record {
      grows = λ k h. on k (c.grows k h);
      held = λ j lj h was.
          elim (cases_Bool (has t1 j)) [
            | inr new ↦ s.0.held j lj h new
            | inl old ↦
                elim (cases_eq d j) [
                  | inl e ↦ (let P : ℕ → Type 0 = λ z. (holder hs z < 16) × ((k : ℕ) → in_rows rows (holder hs z) k ≡ true → In t2 k) in subst P e (ld, s.1))
                  | inr ne ↦ (let w = c.held j lj (sym (f.others j ne) ∙ old) was in (w.0, λ k h2. on k (w.1 k h2)))
                ]
          ];
    }

-- Downlink d is given up: t1 have been tried, d among them, hs became hs1, and who held d holds another one besides.
record Cleared (rows : List ℕ) (hs hs1 : Holders) (d t0 t1 : ℕ) : Type 0 where
  kept : (j : ℕ) → j < 16 → In t1 j → holder hs1 j ≡ holder hs j
  steps : (j : ℕ) → j < 16 → (holder hs1 j ≡ holder hs j) ⊎ ((holder hs1 j < 16) × (in_rows rows (holder hs1 j) j ≡ true))
  apart : (j k : ℕ) → j < 16 → k < 16 → (d ≡ j → ⊥) → (d ≡ k → ⊥) → holder hs1 j < 16 → holder hs1 j ≡ holder hs1 k → j ≡ k
  only : (j : ℕ) → j < 16 → has t1 j ≡ false → holder hs1 j < 16 → (k : ℕ) × (k < 16) × (has t0 k ≡ false) × (holder hs k ≡ holder hs1 j)
  stays : (j : ℕ) → j < 16 → holder hs j < 16 → (k : ℕ) × (k < 16) × (d ≡ k → ⊥) × (holder hs1 k ≡ holder hs j)

-- a free downlink
cleared_free : (rows : List ℕ) (hs : Holders) (d t0 t1 : ℕ) → Apart hs → 16 ≤ holder hs d → ((k : ℕ) → In t0 k → In t1 k) → Cleared rows hs hs d t0 t1
cleared_free rows hs d t0 t1 ap-art free grows =
    record {
      kept = λ j lj h. refl;
      steps = λ j lj. inl refl;
      apart = λ j k lj lk nj nk lh e. ap-art j k (lj, lk, lh, e);
      only = λ j lj h lh. (j, lj, not_before t0 t1 grows j h, refl);
      stays = λ j lj lh. (j, lj, (λ e. let same : holder hs d ≡ holder hs j = ap (holder hs) e in omega arith), refl);
    }

-- one whose holder got another
cleared_moved : (rows : List ℕ) (hs hs1 : Holders) (d t0 t1 t2 : ℕ) → d < 16 → Apart hs → holder hs d < 16 → has t0 d ≡ false → In t1 d → ((k : ℕ) → In t0 k → In t1 k)
    → Seated rows hs hs1 (holder hs d) t1 t2 → Cleared rows hs hs1 d t0 t1
cleared_moved rows hs hs1 d t0 t1 t2 ld ap-art lh new now grows s =
    let fresh : (j : ℕ) → j < 16 → (d ≡ j → ⊥) → holder hs1 j ≡ holder hs d → has t1 j ≡ false =
    λ j lj ne e. elim (cases_Bool (has t1 j)) [
      | inl h ↦ absurd (ne (ap-art d j (ld, lj, lh, sym e ∙ s.kept j lj h)))
      | inr h ↦ h
    ] in
    record {
      kept = s.kept;
      steps = s.steps;
      apart = λ j k lj lk nj nk l e. s.apart j k lj lk l e (λ same. (fresh j lj nj same, fresh k lk nk (sym e ∙ same)));
      only = λ j lj h l.
          elim (s.only j lj h l) [
            | inl e ↦ (d, ld, new, sym e)
            | inr w ↦ (w.0, w.1, not_before t0 t1 grows w.0 w.2, w.3)
          ];
      stays = λ j lj l.
          let w = s.stays j lj l in
          elim (cases_eq d w.0) [
            | inl e ↦
                let g = s.gets in
                let same : holder hs d ≡ holder hs j = sym (s.kept d ld now) ∙ ap (holder hs1) e ∙ w.2 in
                (g.0, g.1, (λ f. both_ways (has t1 g.0) g.2 (ap (has t1) (sym f) ∙ now)), g.3 ∙ same)
            | inr ne ↦ (w.0, w.1, ne, w.2)
          ];
    }

-- the uplink takes the downlink that is given up
seated_cleared : (rows : List ℕ) (hs hs1 : Holders) (up d t0 t1 t2 : ℕ) → d < length hs1 → up < 16 → d < 16 → Tried hs up t0 → has t0 d ≡ false → In t1 d → in_rows rows up d ≡ true
    → ((k : ℕ) → In t0 k → In t1 k) → ((k : ℕ) → In t1 k → In t2 k) → ((j : ℕ) → j < 16 → has t2 j ≡ false → holder hs1 j ≡ holder hs j)
    → Cleared rows hs hs1 d t0 t1 → Seated rows hs (set hs1 d (Some (uplink up))) up t0 t2
seated_cleared rows hs hs1 up d t0 t1 t2 long lu ld own new now edge grows on used c =
    let hs2 : Holders = set hs1 d (Some (uplink up)) in
    let at : holder hs2 d ≡ up = ap number_or_16 (get_or-set_same hs1 d (Some (uplink up)) None long) in
    let off : (j : ℕ) → (d ≡ j → ⊥) → holder hs2 j ≡ holder hs1 j = λ j ne. ap number_or_16 (get_or-set_other hs1 d j (Some (uplink up)) None (λ e. ne (sym e))) in
    let here : (j : ℕ) → d ≡ j → holder hs2 j ≡ up = λ j e. ap (holder hs2) (sym e) ∙ at in
    let alone : (k : ℕ) → k < 16 → (d ≡ k → ⊥) → has t0 k ≡ false → holder hs2 k ≡ up → ⊥ =
    λ k lk ne f e.
    let e1 : holder hs1 k ≡ up = sym (off k ne) ∙ e in
    elim (cases_Bool (has t1 k)) [
      | inl h ↦ both_ways (has t0 k) f (own k lk (sym (c.kept k lk h) ∙ e1))
      | inr h ↦ (let w = c.only k lk h (omega arith) in both_ways (has t0 w.0) w.2 (own w.0 w.1 (w.3 ∙ e1)))
    ] in
    record {
      grows = λ k h. on k (grows k h);
      kept = λ j lj h. off j (λ e. both_ways (has t0 d) new (ap (has t0) e ∙ h)) ∙ c.kept j lj (grows j h);
      used = λ j lj h. off j (λ e. both_ways (has t2 d) (ap (has t2) e ∙ h) (on d now)) ∙ used j lj h;
      steps = λ j lj.
          elim (cases_eq d j) [
            | inl e ↦
                let P : ℕ → ℕ → Type 0 = λ z y. (y < 16) × (in_rows rows y z ≡ true) in
                let Q : ℕ → Type 0 = λ y. P j y in
                let R : ℕ → Type 0 = λ z. P z up in
                inr (subst Q (sym (here j e)) (subst R e (lu, edge)))
            | inr ne ↦
                let P : ℕ → Type 0 = λ y. (y ≡ holder hs j) ⊎ ((y < 16) × (in_rows rows y j ≡ true)) in
                subst P (sym (off j ne)) (c.steps j lj)
          ];
      apart = λ j k lj lk l e out.
          elim (cases_eq d j) [
            | inl ej ↦
                elim (cases_eq d k) [
                  | inl ek ↦ sym ej ∙ ek
                  | inr nk ↦ absurd (alone k lk nk (out (here j ej)).1 (sym e ∙ here j ej))
                ]
            | inr nj ↦
                elim (cases_eq d k) [
                  | inl ek ↦ absurd (alone j lj nj (out (e ∙ here k ek)).0 (e ∙ here k ek))
                  | inr nk ↦ c.apart j k lj lk nj nk (omega (arith, off j nj)) (sym (off j nj) ∙ e ∙ off k nk)
                ]
          ];
      gets = (d, ld, new, at);
      only = λ j lj f l.
          elim (cases_eq d j) [
            | inl e ↦ inl (here j e)
            | inr ne ↦
                elim (cases_Bool (has t1 j)) [
                  | inl h ↦ inr (j, lj, f, sym (c.kept j lj h) ∙ sym (off j ne))
                  | inr h ↦ (let w = c.only j lj h (omega (arith, off j ne)) in inr (w.0, w.1, w.2, w.3 ∙ sym (off j ne)))
                ]
          ];
      stays = λ j lj l. (let w = c.stays j lj l in (w.0, w.1, off w.0 w.2 ∙ w.3));
    }

-- what the holder of d holds has been tried
pub holder_tried : (hs : Holders) (row t t1 d : ℕ) → Apart hs → Picked row t t1 d → holder hs d < 16 → Tried hs (holder hs d) t1
holder_tried hs row t t1 d ap-art f lh j lj e = let P : ℕ → Type 0 = In t1 in subst P (ap-art d j (f.below, lj, lh, sym e)) f.now

-- the uplink takes downlink d, which is free
pub seated_free : (rows : List ℕ) (hs : Holders) (up t0 t t1 d : ℕ) → length hs ≡ 16 → up < 16 → Apart hs → Tried hs up t0 → Picked (get_or rows up 0) t t1 d → ((k : ℕ) → In t0 k → In t k) → 16 ≤ holder hs d
    → Seated rows hs (set hs d (Some (uplink up))) up t0 t1
seated_free rows hs up t0 t t1 d long lu ap-art own f since free =
    let row : ℕ = get_or rows up 0 in
    let grows = all_grows row t0 t t1 d f since in
    seated_cleared rows hs hs up d t0 t1 t1 (omega (arith, f.below)) lu f.below own (new_at_first row t0 t t1 d f since) f.now f.edge grows (λ k h. h) (λ j lj h. refl)
    (cleared_free rows hs d t0 t1 ap-art free grows)

-- the uplink takes downlink d, whose holder got another one
pub seated_moved : (rows : List ℕ) (hs hs1 : Holders) (up t0 t t1 t2 d : ℕ) → length hs1 ≡ 16 → up < 16 → Apart hs → Tried hs up t0 → Picked (get_or rows up 0) t t1 d → ((k : ℕ) → In t0 k → In t k) → holder hs d < 16
    → Seated rows hs hs1 (holder hs d) t1 t2 → Seated rows hs (set hs1 d (Some (uplink up))) up t0 t2
seated_moved rows hs hs1 up t0 t t1 t2 d long lu ap-art own f since lh s =
    let row : ℕ = get_or rows up 0 in
    let grows = all_grows row t0 t t1 d f since in
    let new = new_at_first row t0 t t1 d f since in
    seated_cleared rows hs hs1 up d t0 t1 t2 (omega (arith, f.below)) lu f.below own new f.now f.edge grows s.grows s.used
    (cleared_moved rows hs hs1 d t0 t1 t2 f.below ap-art lh new f.now grows s)

-- ---- a search from an uplink that holds nothing

-- it leaves no uplink with two downlinks
pub apart_after : (rows : List ℕ) (hs hs1 : Holders) (up t0 t : ℕ) → Idle hs up → Seated rows hs hs1 up t0 t → Apart hs1
apart_after rows hs hs1 up t0 t idle s j k w =
    let new : (i : ℕ) → i < 16 → holder hs1 i ≡ up → has t0 i ≡ false =
    λ i li e. elim (cases_Bool (has t0 i)) [ inl h ↦ absurd (idle i li (sym (s.kept i li h) ∙ e)) | inr h ↦ h ] in
    s.apart j k w.0 w.1 w.2 w.3 (λ e. (new j w.0 e, new k w.1 (sym w.3 ∙ e)))

-- and each holder stays one of sixteen
pub known_after : (hs : Holders) (up d : ℕ) → d < length hs → up < 16 → Known hs → Known (set hs d (Some (uplink up)))
known_after hs up d long lu known j u is =
    elim (cases_eq j d) [
      | inl e ↦ omega (arith, ap number_or_16 (sym (get_or-set_same hs d (Some (uplink up)) None long) ∙ ap (λ k. get_or (set hs d (Some (uplink up))) k None) (sym e) ∙ is))
      | inr ne ↦ known j u (sym (get_or-set_other hs d j (Some (uplink up)) None ne) ∙ is)
    ]

-- nobody holds one of n downlinks
pub no_holder : (n j : ℕ) → get_or (replicate {A = Option Uplink} n None) j None ≡ None
no_holder zero j = refl
no_holder (suc n) zero = refl
no_holder (suc n) (suc j) = no_holder n j
