-- The layers of a round, one after another. Assumes nothing.
use Rattle.std.proofs.Common.{◌≡◌, ℕ, ◌<◌, ◌≤◌, true, false, not, ◌&&◌, ◌||◌, ltb, ◌⊎◌, List, get_or, sym, refl, ap, ◌∙◌, subst, inl, inr}
use Rattle.std.proofs.lemmas.Bool.{cases_Bool, both_ways, and_from, and_parts, and_cases, or_cases, or_left, or_right, not-true, not_from_false, lt-ltb, ltb-true, ltb-false}
use Rattle.lines.specs.Sets.{has, In}
use Rattle.lines.proofs.Bits.{has_zero}
use Rattle.matching.specs.Supports.{in_rows}
use Rattle.augmenting.specs.Holders.{Holders, holder, Apart, Busy, untried}
use Rattle.augmenting.proofs.Seats.{fewer}
use Rattle.layered.specs.Layers.{Roots, Stepped, Followed, Leading, Ended}

-- The layers so far: layer is the last one of uplinks, and seen are the downlinks before it.
pub record Growing (rows : List ℕ) (hs : Holders) (roots : ℕ) (steps : List ℕ) (layer reached seen : ℕ) : Type 0 where
  pub part : (i j : ℕ) → i < 16 → in_rows steps i j ≡ true → in_rows rows i j ≡ true
  pub start : (u : ℕ) → In roots u → In reached u
  pub last : (u : ℕ) → In layer u → In reached u
  pub origin : (u : ℕ) → In reached u → (u < 16) × ((In roots u) ⊎ ((j : ℕ) × (j < 16) × In seen j × (holder hs j ≡ u)))
  pub held : (j : ℕ) → j < 16 → In seen j → (holder hs j < 16) × In reached (holder hs j)
  pub done : (u j : ℕ) → u < 16 → In reached u → has layer u ≡ false → in_rows rows u j ≡ true → In seen j
  pub fresh : (u : ℕ) → u < 16 → In layer u → get_or steps u 0 ≡ 0
  pub blank : (u : ℕ) → u < 16 → has reached u ≡ false → get_or steps u 0 ≡ 0
  pub forced : (t : ℕ) → Followed steps hs roots t → (j : ℕ) → j < 16 → In seen j → In t j

none : (x j : ℕ) → x ≡ 0 → has x j ≡ true → ⊥
none x j e h = both_ways (has x j) (ap (λ z. has z j) e ∙ has_zero j) h

pub growing_start : (rows : List ℕ) (hs : Holders) (steps : List ℕ) (roots : ℕ) → Roots hs roots → ((u : ℕ) → u < 16 → get_or steps u 0 ≡ 0) → Growing rows hs roots steps roots roots 0
growing_start rows hs steps roots idle zero-steps =
    record {
      part = λ i j li h. absurd (none (get_or steps i 0) j (zero-steps i li) h);
      start = λ u h. h;
      last = λ u h. h;
      origin = λ u h. ((idle u h).0, inl h);
      held = λ j lj h. absurd (none 0 j refl h);
      done = λ u j lu h f e. absurd (both_ways (has roots u) f h);
      fresh = λ u lu h. zero-steps u lu;
      blank = λ u lu h. zero-steps u lu;
      forced = λ t f j lj h. absurd (none 0 j refl h);
    }

module _ (rows : List ℕ) (hs : Holders) (roots : ℕ) (steps steps1 : List ℕ) (layer reached seen next : ℕ)
    (g : Growing rows hs roots steps layer reached seen) (s : Stepped rows layer seen steps steps1 next) where
  -- a step that there was is still there
  older : (u k : ℕ) → u < 16 → in_rows steps u k ≡ true → in_rows steps1 u k ≡ true
  older u k lu h =
      elim (cases_Bool (has layer u)) [
        | inl is ↦ absurd (none (get_or steps u 0) k (g.fresh u lu is) h)
        | inr isnt ↦ ap (λ x. has x k) (s.same u lu isnt) ∙ h
      ]

  root_line : (u : ℕ) → In roots u → u < 16
  root_line u h = (g.origin u (g.start u h)).0

  followed_before : (t : ℕ) → Followed steps1 hs roots t → Followed steps hs roots t
  followed_before t f =
      record {
        first = λ u h k e. f.first u h k (older u k (root_line u h) e);
        later = λ j lj h lh k e. f.later j lj h lh k (older (holder hs j) k lh e);
      }

  pub part_after : (i j : ℕ) → i < 16 → in_rows steps1 i j ≡ true → in_rows rows i j ≡ true
  part_after i j li h =
      elim (cases_Bool (has layer i)) [
        | inl is ↦ (and_parts (in_rows rows i j) (not (has seen j)) (sym (s.row i li is j) ∙ h)).0
        | inr isnt ↦ g.part i j li (ap (λ x. has x j) (sym (s.same i li isnt)) ∙ h)
      ]

  -- whatever follows the steps has all of the next downlinks
  next_forced : (t : ℕ) → Followed steps1 hs roots t → (k : ℕ) → In next k → In t k
  next_forced t f k h =
      let w = s.from k h in
      elim (g.origin w.0 (g.last w.0 w.2)).1 [
        | inl root ↦ f.first w.0 root k w.3
        | inr x ↦
            let P : ℕ → Type 0 = λ z. z < 16 → in_rows steps1 z k ≡ true → In t k in
            subst P x.3 (λ l. f.later x.0 x.1 (g.forced t (followed_before t f) x.0 x.1 x.2) l k) w.1 w.3
      ]

  next_new : (k : ℕ) → In next k → has seen k ≡ false
  next_new k h =
      let w = s.from k h in
      not-true (has seen k) (and_parts (in_rows rows w.0 k) (not (has seen k)) (sym (s.row w.0 w.1 w.2 k) ∙ w.3)).1

  -- what a reached uplink has in its row is seen, or comes next
  seen_or_next : (u k : ℕ) → u < 16 → In reached u → in_rows rows u k ≡ true → (In seen k) ⊎ (In next k)
  seen_or_next u k lu h e =
      elim (cases_Bool (has layer u)) [
        | inr isnt ↦ inl (g.done u k lu h isnt e)
        | inl is ↦
            elim (cases_Bool (has seen k)) [
              | inl old ↦ inl old
              | inr new ↦ inr (s.into u lu is k (s.row u lu is k ∙ and_from (in_rows rows u k) (not (has seen k)) e (not_from_false (has seen k) new)))
            ]
      ]

  from_after : (u : ℕ) → In reached u → (In roots u) ⊎ ((u < 16) × Busy hs u)
  from_after u h = (let w = g.origin u h in elim w.1 [ inl r ↦ inl r | inr x ↦ inr (w.0, (x.0, x.1, x.3)) ])

  -- nothing comes next
  pub layers_ended : ((k : ℕ) → has next k ≡ false) → Ended rows hs roots reached
  layers_ended empty =
      record {
        start = g.start;
        from = from_after;
        closed = λ u j lu lj h e. elim (seen_or_next u j lu h e) [ inl old ↦ g.held j lj old | inr new ↦ absurd (both_ways (has next j) (empty j) new) ];
      }

  -- a free downlink comes next
  pub layers_lead : (held x k : ℕ) → ((j : ℕ) → has held j ≡ (ltb j 16 && ltb (holder hs j) 16)) → ((j : ℕ) → has x j ≡ (has next j && not (has held j))) → k < 16 → In x k → Leading rows hs roots steps1
  layers_lead held x k is_held_lem is_x lk h =
      let both = and_parts (has next k) (not (has held k)) (sym (is_x k) ∙ h) in
      record {
        part = part_after;
        leads = λ t f. (k, lk, free k lk (sym (is_held_lem k) ∙ not-true (has held k) both.1), next_forced t f k both.0);
      }
    where
      free : (j : ℕ) → j < 16 → (ltb j 16 && ltb (holder hs j) 16) ≡ false → 16 ≤ holder hs j
      free j lj e = elim (and_cases (ltb j 16) (ltb (holder hs j) 16) e) [ inl f ↦ absurd (both_ways (ltb j 16) f (lt-ltb j 16 lj)) | inr f ↦ ltb-false (holder hs j) 16 f ]

  -- all that comes next is held, and its holders are the next layer
  pub growing_more : (held x layer1 reached1 seen1 : ℕ) → Roots hs roots → Apart hs
      → ((j : ℕ) → has held j ≡ (ltb j 16 && ltb (holder hs j) 16)) → ((j : ℕ) → has x j ≡ (has next j && not (has held j))) → ((j : ℕ) → has x j ≡ false)
      → ((u : ℕ) → In layer1 u → (u < 16) × ((j : ℕ) × (j < 16) × In next j × (holder hs j ≡ u))) → ((j : ℕ) → j < 16 → In next j → holder hs j < 16 → In layer1 (holder hs j))
      → ((k : ℕ) → has seen1 k ≡ (has seen k || has next k)) → ((k : ℕ) → has reached1 k ≡ (has reached k || has layer1 k))
      → Growing rows hs roots steps1 layer1 reached1 seen1
  growing_more held x layer1 reached1 seen1 idle ap-art is_held_lem is_x empty from all is_seen is-reached =
      let next-held : (j : ℕ) → In next j → holder hs j < 16 =
      λ j h. elim (cases_Bool (has held j)) [
        | inl y ↦ ltb-true (holder hs j) 16 (and_parts (ltb j 16) (ltb (holder hs j) 16) (sym (is_held_lem j) ∙ y)).1
        | inr n ↦ absurd (both_ways (has x j) (empty j) (is_x j ∙ and_from (has next j) (not (has held j)) h (not_from_false (has held j) n)))
      ] in
      let seen-on : (k : ℕ) → In seen k → In seen1 k = λ k h. is_seen k ∙ or_left (has seen k) (has next k) h in
      let next-on : (k : ℕ) → In next k → In seen1 k = λ k h. is_seen k ∙ or_right (has seen k) (has next k) h in
      let reached-on : (u : ℕ) → In reached u → In reached1 u = λ u h. is-reached u ∙ or_left (has reached u) (has layer1 u) h in
      let new-on : (u : ℕ) → In layer1 u → In reached1 u = λ u h. is-reached u ∙ or_right (has reached u) (has layer1 u) h in
      let not-reached : (u : ℕ) → In layer1 u → has reached u ≡ false =
      λ u h. elim (cases_Bool (has reached u)) [
        | inr n ↦ n
        | inl y ↦
            let w = (from u h).1 in
            elim (g.origin u y).1 [
              | inl root ↦ absurd ((idle u root).1 w.0 w.1 w.3)
              | inr o ↦
                  let same : w.0 ≡ o.0 = ap-art w.0 o.0 (w.1, o.1, next-held w.0 w.2, w.3 ∙ sym o.3) in
                  absurd (both_ways (has seen w.0) (next_new w.0 w.2) (ap (has seen) same ∙ o.2))
            ]
      ] in
      let untouched : (u : ℕ) → u < 16 → has reached u ≡ false → get_or steps1 u 0 ≡ 0 =
      λ u lu h. s.same u lu (elim (cases_Bool (has layer u)) [ inl y ↦ absurd (both_ways (has reached u) h (g.last u y)) | inr n ↦ n ]) ∙ g.blank u lu h in
      record {
        part = part_after;
        start = λ u h. reached-on u (g.start u h);
        last = new-on;
        origin = λ u h. elim (or_cases (has reached u) (has layer1 u) (sym (is-reached u) ∙ h)) [
          | inl old ↦ (let o = g.origin u old in (o.0, elim o.1 [ inl r ↦ inl r | inr y ↦ inr (y.0, y.1, seen-on y.0 y.2, y.3) ]))
          | inr new ↦ (let f = from u new in let y = f.1 in (f.0, inr (y.0, y.1, next-on y.0 y.2, y.3)))
        ];
        held = λ j lj h. elim (or_cases (has seen j) (has next j) (sym (is_seen j) ∙ h)) [
          | inl old ↦ (let w = g.held j lj old in (w.0, reached-on (holder hs j) w.1))
          | inr new ↦ (next-held j new, new-on (holder hs j) (all j lj new (next-held j new)))
        ];
        done = λ u j lu h out e. elim (or_cases (has reached u) (has layer1 u) (sym (is-reached u) ∙ h)) [
          | inl old ↦ elim (seen_or_next u j lu old e) [ inl y ↦ seen-on j y | inr y ↦ next-on j y ]
          | inr new ↦ absurd (both_ways (has layer1 u) out new)
        ];
        fresh = λ u lu h. untouched u lu (not-reached u h);
        blank = λ u lu h. untouched u lu (elim (cases_Bool (has reached u)) [ inl y ↦ absurd (both_ways (has reached1 u) h (reached-on u y)) | inr n ↦ n ]);
        forced = λ t f j lj h. elim (or_cases (has seen j) (has next j) (sym (is_seen j) ∙ h)) [
          | inl old ↦ g.forced t (followed_before t f) j lj old
          | inr new ↦ next_forced t f j new
        ];
      }

  -- fewer downlinks are left
  pub fewer_unseen : (seen1 k : ℕ) → k < 16 → In next k → ((j : ℕ) → has seen1 j ≡ (has seen j || has next j)) → untried seen1 < untried seen
  fewer_unseen seen1 k lk h is_seen =
      fewer seen seen1 k lk (λ j y. is_seen j ∙ or_left (has seen j) (has next j) y) (next_new k h) (is_seen k ∙ or_right (has seen k) (has next k) h)
