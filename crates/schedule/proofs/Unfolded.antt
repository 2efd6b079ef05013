-- A schedule of modes, unfolded, is an open-shop schedule of its length. Assumes nothing.
use Rattle.std.proofs.Common.{◌≡◌, ℕ, zero, suc, ◌+◌, ◌-◌, ◌<◌, ◌≤◌, cond, eqb, ltb, ◌⊎◌, List, [], ◌∷◌, ◌++◌, refl, ap, ◌∙◌, inl, inr, arith}
use Rattle.std.proofs.lemmas.Bool.{cases_lt, eq-eqb, ne_eqb, cond-true, cond-false, lt-ltb, le-ltb}
use Rattle.std.proofs.lemmas.Bool.Decides.{nat_tests}
use Rattle.lines.specs.Sums.{sum_below}
use Rattle.lines.proofs.Sums.{sum_one}
use Rattle.schedule.specs.declared.Mode.{Mode}
use Rattle.schedule.specs.Modes.{granted, Sound, AllSound, span, grants}
use Rattle.schedule.specs.OpenShop.{Tuple, InTurn, Among, Clear, time_for, tuple_of, tuples_of, unfold_from}
use Rattle.schedule.specs.Bounds.{Unfolds}
use Rattle.schedule.proofs.Modes.{granted_within, granted_up, granted_down}
use Rattle.schedule.proofs.Shops.{turn_inside}

-- lists of tuples one behind the other

among_either : (x : Tuple) (xs ys : List Tuple) → Among x (xs ++ ys) → Among x xs ⊎ Among x ys
among_either x [] ys a = inr a
among_either x (z ∷ zs) ys (inl e) = inl (inl e)
among_either x (z ∷ zs) ys (inr a) = elim (among_either x zs ys a) [ inl p ↦ inl (inr p) | inr p ↦ inr p ]

turn_from : (a b : ℕ) (xs : List Tuple) (c : ℕ) → a ≤ b → InTurn b xs c → InTurn a xs c
turn_from a b [] c l h = omega (arith, h)
turn_from a b (x ∷ xs) c l h = (omega (arith, h.0), h.1, h.2)

turn_join : (a b : ℕ) (xs ys : List Tuple) (c : ℕ) → InTurn a xs b → InTurn b ys c → InTurn a (xs ++ ys) c
turn_join a b [] ys c g h = turn_from a b ys c g h
turn_join a b (x ∷ xs) ys c g h = (g.0, g.1, turn_join x.finish b xs ys c g.2 h)

time_join : (i : ℕ) (xs ys : List Tuple) → time_for i (xs ++ ys) ≡ time_for i xs + time_for i ys
time_join i [] ys = omega arith
time_join i (x ∷ xs) ys = omega (arith, time_join i xs ys)

-- the tuples of one mode on downlink j

module _ (m : Mode) (time j : ℕ) where
  tuple_here : (h : ℕ) → 0 < granted m h j → tuple_of m time h j ≡ (record { job = h; start = time; finish = time + granted m h j } ∷ [])
  tuple_here h p = cond-true (ltb 0 (granted m h j)) _ _ (lt-ltb 0 (granted m h j) p)

  tuple_none : (h : ℕ) → granted m h j ≤ 0 → tuple_of m time h j ≡ []
  tuple_none h p = cond-false (ltb 0 (granted m h j)) _ _ (le-ltb 0 (granted m h j) p)

  tuple_time : (i h : ℕ) → time_for i (tuple_of m time h j) ≡ cond (eqb h i) (granted m h j) 0
  tuple_time i h =
      elim (cases_lt 0 (granted m h j)) [
        | inl p ↦ (let e = ap (time_for i) (tuple_here h p) in let u : time + granted m h j - time ≡ granted m h j = omega arith in grind (arith, nat_tests))
        | inr p ↦ (let e = ap (time_for i) (tuple_none h p) in grind (arith, nat_tests))
      ]

  tuples_time : (i n : ℕ) → time_for i (tuples_of n m time j) ≡ sum_below n (λ h. cond (eqb h i) (granted m h j) 0)
  tuples_time i zero = refl
  tuples_time i (suc n) = omega (arith, time_join i (tuples_of n m time j) (tuple_of m time n j), tuples_time i n, tuple_time i n)

  -- the mode gives an uplink below n what it grants
  mode_time : (n i : ℕ) → i < n → time_for i (tuples_of n m time j) ≡ granted m i j
  mode_time n i l =
      tuples_time i n
      ∙ sum_one n (λ h. cond (eqb h i) (granted m h j) 0) i l (λ h _ ne. cond-false (eqb h i) (granted m h j) 0 (ne_eqb h i ne))
      ∙ cond-true (eqb i i) (granted m i j) 0 (eq-eqb i i refl)

  -- a tuple comes of a grant
  tuple_grant : (h : ℕ) (x : Tuple) → Among x (tuple_of m time h j) → (x.job ≡ h) × (0 < granted m h j)
  tuple_grant h x a =
      elim (cases_lt 0 (granted m h j)) [
        | inl p ↦ elim (rw (tuple_here h p) at a) [ inl e ↦ (ap (λ (z : Tuple). z.job) e, p) | inr none ↦ absurd none ]
        | inr p ↦ absurd (rw (tuple_none h p) at a)
      ]

  tuples_grant : (n : ℕ) (x : Tuple) → Among x (tuples_of n m time j) → (x.job < n) × (0 < granted m x.job j)
  tuples_grant zero x a = absurd a
  tuples_grant (suc n) x a =
      elim (among_either x (tuples_of n m time j) (tuple_of m time n j) a) [
        | inl p ↦ (let g = tuples_grant n x p in (omega (arith, g.0), g.1))
        | inr p ↦ (let g = tuple_grant n x p in (omega (arith, g.0), rw g.0 g.1))
      ]

  tuples_none : (n : ℕ) → ((h : ℕ) → h < n → granted m h j ≡ 0) → tuples_of n m time j ≡ []
  tuples_none zero none = refl
  tuples_none (suc n) none =
      let here = tuple_none n (omega (arith, none n (omega arith))) in
      let rest = tuples_none n (λ h l. none h (omega arith)) in
      rw (rest, here) refl

  -- at most one uplink has a grant there, so the tuples take turns within the mode
  mode_turn : (k : ℕ) → Sound k m → (n : ℕ) → InTurn time (tuples_of n m time j) (time + m.dwell)
  mode_turn k s zero = omega arith
  mode_turn k s (suc n) =
      elim (cases_lt 0 (granted m n j)) [
        | inl p ↦
            (let alone : (h : ℕ) → h < n → granted m h j ≡ 0 =
            (λ h l. elim (cases_lt 0 (granted m h j)) [ inl q ↦ (let e : h ≡ n = granted_down k m s h n j q p in omega arith) | inr q ↦ omega arith ]) in
            rw (tuples_none n alone, tuple_here n p) (omega arith, omega arith, omega (arith, granted_within k m s n j)))
        | inr p ↦ rw (tuple_none n p) (turn_join time (time + m.dwell) (tuples_of n m time j) [] (time + m.dwell) (mode_turn k s n) (omega arith))
      ]

-- the tuples of all modes on downlink j

unfold_time : (n i j : ℕ) → i < n → (time : ℕ) (ms : List Mode) → time_for i (unfold_from n time ms j) ≡ grants ms i j
unfold_time n i j l time [] = refl
unfold_time n i j l time (m ∷ ms) =
    omega (arith, time_join i (tuples_of n m time j) (unfold_from n (time + m.dwell) ms j), mode_time m time j n i l, unfold_time n i j l (time + m.dwell) ms)

unfold_turn : (n j time : ℕ) (ms : List Mode) → AllSound n ms → InTurn time (unfold_from n time ms j) (time + span ms)
unfold_turn n j time [] h = omega arith
unfold_turn n j time (m ∷ ms) h =
    let end : time + (m.dwell + span ms) ≡ time + m.dwell + span ms = omega arith in
    rw end (turn_join time (time + m.dwell) (tuples_of n m time j) (unfold_from n (time + m.dwell) ms j) (time + m.dwell + span ms) (mode_turn m time j n h.0 n) (unfold_turn n j (time + m.dwell) ms h.1))

unfold_jobs : (n j time : ℕ) (ms : List Mode) (x : Tuple) → Among x (unfold_from n time ms j) → x.job < n
unfold_jobs n j time [] x a = absurd a
unfold_jobs n j time (m ∷ ms) x a =
    elim (among_either x (tuples_of n m time j) (unfold_from n (time + m.dwell) ms j) a) [
      | inl p ↦ (tuples_grant m time j n x p).0
      | inr p ↦ unfold_jobs n j (time + m.dwell) ms x p
    ]

-- one mode is over before the next begins
unfold_after : (n j k time : ℕ) (m : Mode) (ms : List Mode) → AllSound n (m ∷ ms) → (x y : Tuple) → Among x (tuples_of n m time j) → Among y (unfold_from n (time + m.dwell) ms k) → x.finish ≤ y.start
unfold_after n j k time m ms h x y a b =
    omega (arith, (turn_inside time (tuples_of n m time j) (time + m.dwell) (mode_turn m time j n h.0 n) x a).1, (turn_inside (time + m.dwell) (unfold_from n (time + m.dwell) ms k) (time + m.dwell + span ms) (unfold_turn n k (time + m.dwell) ms h.1) y b).0)

-- in one mode an uplink has one downlink
unfold_clear : (n j k time : ℕ) (ms : List Mode) → AllSound n ms → (j ≡ k → ⊥) → (x y : Tuple) → Among x (unfold_from n time ms j) → Among y (unfold_from n time ms k) → x.job ≡ y.job → Clear x y
unfold_clear n j k time [] h ne x y a b e = absurd a
unfold_clear n j k time (m ∷ ms) h ne x y a b e =
    elim (among_either x (tuples_of n m time j) (unfold_from n (time + m.dwell) ms j) a) [
      | inl p ↦
          elim (among_either y (tuples_of n m time k) (unfold_from n (time + m.dwell) ms k) b) [
            | inl q ↦ absurd (ne (granted_up n m h.0 x.job j k (tuples_grant m time j n x p).1 (rw e (tuples_grant m time k n y q).1)))
            | inr q ↦ inl (unfold_after n j k time m ms h x y p q)
          ]
      | inr p ↦
          elim (among_either y (tuples_of n m time k) (unfold_from n (time + m.dwell) ms k) b) [
            | inl q ↦ inr (unfold_after n k j time m ms h y x q p)
            | inr q ↦ unfold_clear n j k (time + m.dwell) ms h.1 ne x y p q e
          ]
    ]

pub unfolds : Unfolds
unfolds n ms m s =
    record {
      jobs = λ j _ x. unfold_jobs n j 0 ms x;
      machines = λ j _. (let start : 0 + span ms ≡ span ms = omega arith in rw start at (unfold_turn n j 0 ms s.sound));
      one_place = λ j k _ _ ne. unfold_clear n j k 0 ms s.sound ne;
      exact = λ i j li lj. unfold_time n i j li 0 ms ∙ s.exact i j li lj;
    }
