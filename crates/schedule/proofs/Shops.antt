-- Open shops slot by slot, and why none is over before its busiest line. Assumes nothing.
use Rattle.std.proofs.Common.{◌≡◌, ℕ, zero, suc, ◌+◌, ◌-◌, ◌*◌, ◌<◌, ◌≤◌, min, max, Bool, true, false, cond, eqb, ltb, List, [], ◌∷◌, sym, refl, ap, ◌∙◌, inl, inr, mul-le-mul_right, arith}
use Rattle.std.proofs.lemmas.Bool.{cases_eq, cases_lt}
use Rattle.std.proofs.lemmas.Bool.Decides.{nat_tests}
use Rattle.lines.specs.declared.Line.{Line}
use Rattle.lines.specs.declared.Line.TheVariants.{Up, Down}
use Rattle.lines.specs.Sums.{sum_below, largest_below}
use Rattle.lines.specs.Matrix.{Matrix, uplink_sum, downlink_sum, load, Inside}
use Rattle.lines.proofs.Sums.{sum_zeros, sum_le, sum_add, sum_const, sum_times, sum_swap, sum_at_most_one}
use Rattle.lines.proofs.Loads.{load_same, busiest_bound}
use Rattle.schedule.specs.OpenShop.{Tuple, Shop, InTurn, Among, time_for, OpenShop}
use Rattle.schedule.specs.Bounds.{NoShorterShop, NoShorterParts}

-- 1 where a tuple covers slot k, else 0
abbrev pub covers : Tuple → ℕ → ℕ
covers x k = cond (ltb k x.start) 0 (cond (ltb k x.finish) 1 0)

-- how many tuples of job i cover slot k
abbrev pub busy : ℕ → List Tuple → ℕ → ℕ
busy i [] k = 0
busy i (x ∷ xs) k = cond (eqb x.job i) (covers x k) 0 + busy i xs k

-- a tuple of job i covers slot k
pub record Works (i k : ℕ) (x : Tuple) : Type 0 where
  pub mine : x.job ≡ i
  pub begun : x.start ≤ k
  pub going : k < x.finish

pub turn_forward : (from : ℕ) (xs : List Tuple) (to : ℕ) → InTurn from xs to → from ≤ to
turn_forward from [] to h = h
turn_forward from (x ∷ xs) to h = omega (arith, h.0, h.1, turn_forward x.finish xs to h.2)

-- each of them starts and finishes between the two times
pub turn_inside : (from : ℕ) (xs : List Tuple) (to : ℕ) → InTurn from xs to → (x : Tuple) → Among x xs → (from ≤ x.start) × (x.finish ≤ to)
turn_inside from [] to h x a = absurd a
turn_inside from (y ∷ ys) to h x (inl e) = (omega (arith, h.0, ap (λ (z : Tuple). z.start) e), omega (arith, turn_forward y.finish ys to h.2, ap (λ (z : Tuple). z.finish) e))
turn_inside from (y ∷ ys) to h x (inr a) =
    let rest = turn_inside y.finish ys to h.2 x a in
    (omega (arith, h.0, h.1, rest.0), rest.1)

-- two that cover one slot are one
pub turn_one : (from : ℕ) (xs : List Tuple) (to : ℕ) → InTurn from xs to → (x y : Tuple) (i h k : ℕ) → Among x xs → Among y xs → Works i k x → Works h k y → x ≡ y
turn_one from [] to t x y i h k a b p q = absurd a
turn_one from (z ∷ zs) to t x y i h k (inl a) (inl b) p q = a ∙ sym b
turn_one from (z ∷ zs) to t x y i h k (inl a) (inr b) p q =
    absurd (omega (arith, p.going, q.begun, ap (λ (z : Tuple). z.finish) a, (turn_inside z.finish zs to t.2 y b).0))
turn_one from (z ∷ zs) to t x y i h k (inr a) (inl b) p q =
    absurd (omega (arith, q.going, p.begun, ap (λ (z : Tuple). z.finish) b, (turn_inside z.finish zs to t.2 x a).0))
turn_one from (z ∷ zs) to t x y i h k (inr a) (inr b) p q = turn_one z.finish zs to t.2 x y i h k a b p q

-- the slots below t that a tuple covers
covered : (x : Tuple) (t : ℕ) → sum_below t (covers x) ≡ min t x.finish - x.start
covered x zero = omega arith
covered x (suc t) = let e = covered x t in grind (arith, nat_tests)

-- only a tuple of job i that covers slot k counts
works : (x : Tuple) (i k : ℕ) → 0 < cond (eqb x.job i) (covers x k) 0 → Works i k x
works x i k p = record { mine = grind (arith, nat_tests); begun = grind (arith, nat_tests); going = grind (arith, nat_tests) }

-- a job that is worked on in a slot has a tuple there
found : (i k : ℕ) (xs : List Tuple) → 0 < busy i xs k → (x : Tuple) × Among x xs × Works i k x
found i k [] p = absurd (omega arith)
found i k (x ∷ xs) p =
    elim (cases_lt 0 (cond (eqb x.job i) (covers x k) 0)) [
      | inl here ↦ (x, inl refl, works x i k here)
      | inr none ↦ (let rest = found i k xs (omega arith) in (rest.0, inr rest.1, rest.2))
    ]

-- in one slot at most one tuple is worked on
busy_le : (i k from : ℕ) (xs : List Tuple) (to : ℕ) → InTurn from xs to → busy i xs k ≤ 1
busy_le i k from [] to h = omega arith
busy_le i k from (x ∷ xs) to h =
    elim (cases_lt 0 (cond (eqb x.job i) (covers x k) 0)) [
      | inl here ↦
          (let later : busy i xs k ≡ 0 =
          elim (cases_lt 0 (busy i xs k)) [
            | inl p ↦ (let y = found i k xs p in absurd (omega (arith, (works x i k here).going, y.2.begun, (turn_inside x.finish xs to h.2 y.0 y.1).0)))
            | inr p ↦ omega arith
          ] in
          grind (arith, nat_tests))
      | inr none ↦ omega (arith, busy_le i k x.finish xs to h.2)
    ]

-- the slots in which a machine works on a job are the time that it gives to the job
slots_time : (i from : ℕ) (xs : List Tuple) (to : ℕ) → InTurn from xs to → sum_below to (busy i xs) ≡ time_for i xs
slots_time i from [] to h = sum_zeros to (λ _. 0) (λ _ _. refl)
slots_time i from (x ∷ xs) to h =
    let parts = sum_add to (λ k. cond (eqb x.job i) (covers x k) 0) (busy i xs) in
    let rest = slots_time i x.finish xs to h.2 in
    let ends = turn_forward x.finish xs to h.2 in
    let mine : sum_below to (covers x) ≡ x.finish - x.start = omega (arith, covered x to) in
    omega (arith, parts, rest, counted (eqb x.job i) mine)
  where
    counted : (b : Bool) → sum_below to (covers x) ≡ x.finish - x.start → sum_below to (λ k. cond b (covers x k) 0) ≡ cond b (x.finish - x.start) 0
    counted true e = e
    counted false e = sum_zeros to (λ _. 0) (λ _ _. refl)

-- the sum of a line that is counted slot by slot
load_slots : (n : ℕ) (l : Line) (t : ℕ) (f : ℕ → ℕ → ℕ → ℕ) → load n l (λ a b. sum_below t (f a b)) ≡ sum_below t (λ k. load n l (λ a b. f a b k))
load_slots n (Up i) t f = sum_swap n t (λ j k. f i.0 j k)
load_slots n (Down j) t f = sum_swap n t (λ i k. f i j.0 k)

module _ (n t : ℕ) (shop : Shop) (needs : Matrix) (h : OpenShop n t shop needs) where
  -- in one slot a line is in use at most once: a job has one place, and a machine one tuple
  slot_once : (l : Line) → Inside n l → (k : ℕ) → load n l (λ i j. busy i (shop j) k) ≤ 1
  slot_once (Up i) inside k =
      sum_at_most_one n (λ j. busy i.0 (shop j) k) (λ j lj. busy_le i.0 k 0 (shop j) t (h.machines j lj)) (λ a b la lb p q. elim (cases_eq a b) [ inl e ↦ e | inr ne ↦ absurd (twice a b la lb ne p q) ])
    where
      twice : (a b : ℕ) → a < n → b < n → (a ≡ b → ⊥) → busy i.0 (shop a) k ≡ 1 → busy i.0 (shop b) k ≡ 1 → ⊥
      twice a b la lb ne p q =
          let x = found i.0 k (shop a) (omega arith) in
          let y = found i.0 k (shop b) (omega arith) in
          elim (h.one_place a b la lb ne x.0 y.0 x.1 y.1 (x.2.mine ∙ sym y.2.mine)) [
            | inl e ↦ omega (arith, x.2.going, y.2.begun)
            | inr e ↦ omega (arith, y.2.going, x.2.begun)
          ]
  slot_once (Down j) inside k =
      sum_at_most_one n (λ i. busy i (shop j.0) k) (λ i _. busy_le i k 0 (shop j.0) t (h.machines j.0 inside))
      (λ a b _ _ p q.
      let x = found a k (shop j.0) (omega arith) in
      let y = found b k (shop j.0) (omega arith) in
      sym x.2.mine ∙ ap (λ (z : Tuple). z.job) (turn_one 0 (shop j.0) t (h.machines j.0 inside) x.0 y.0 a b k x.1 y.1 x.2 y.2) ∙ y.2.mine)

  line_bound : (l : Line) → Inside n l → load n l needs ≤ t
  line_bound l inside =
      let time = load_same n l (λ i j. sum_below t (busy i (shop j))) needs inside (λ i j li lj. slots_time i 0 (shop j) t (h.machines j lj) ∙ h.exact i j li lj) in
      let once = sum_le t (λ k. load n l (λ i j. busy i (shop j) k)) (λ _. 1) (λ k _. slot_once l inside k) in
      omega (arith, time, once, load_slots n l t (λ i j. busy i (shop j)), sum_const t 1)

pub no_shorter_shop : NoShorterShop
no_shorter_shop n t shop m h = busiest_bound n m t (line_bound n t shop m h)

-- q times as much on each line is q times as much on the busiest

max_times : (a b q : ℕ) → max a b * q ≡ max (a * q) (b * q)
max_times a b q =
    elim (cases_lt a b) [
      | inl l ↦ (let e : max a b ≡ b = omega arith in let le : a ≤ b = omega arith in omega (arith, ap (λ x. x * q) e, mul-le-mul_right q le))
      | inr l ↦ (let e : max a b ≡ a = omega arith in omega (arith, ap (λ x. x * q) e, mul-le-mul_right q l))
    ]

largest_times : (n q : ℕ) (f g : ℕ → ℕ) → ((k : ℕ) → g k ≡ f k * q) → largest_below n g ≡ largest_below n f * q
largest_times zero q f g e = omega arith
largest_times (suc n) q f g e = omega (arith, largest_times n q f g e, e n, max_times (largest_below n f) (f n) q)

pub no_shorter_parts : NoShorterParts
no_shorter_parts n q t shop m h =
    let all = no_shorter_shop n t shop (λ i j. m i j * q) h in
    let up = largest_times n q (uplink_sum n m) (uplink_sum n (λ i j. m i j * q)) (λ i. sum_times n (λ j. m i j) q) in
    let down = largest_times n q (downlink_sum n m) (downlink_sum n (λ i j. m i j * q)) (λ j. sum_times n (λ i. m i j) q) in
    omega (arith, all, up, down, max_times (largest_below n (uplink_sum n m)) (largest_below n (downlink_sum n m)) q)
