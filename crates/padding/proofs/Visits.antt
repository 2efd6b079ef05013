-- Padding row by row, as a loop does it. Assumes nothing.
use Rattle.std.proofs.Common.{◌≡◌, ℕ, ◌+◌, ◌-◌, ◌<◌, ◌≤◌, min, ap, ◌∙◌, inl, inr, arith}
use Rattle.std.proofs.lemmas.Bool.{cases_eq}
use Rattle.lines.specs.Sums.{sum_below}
use Rattle.lines.specs.Matrix.{Matrix, uplink_sum, downlink_sum, busiest, Blank}
use Rattle.lines.proofs.Sums.{sum_same, sum_next}
use Rattle.padding.specs.Padding.{up_lack, down_lack, PaddedTo, Padded, RowVisited}

-- the rows before i are padded, and the others are as in m; lacks are what the downlinks still lack
pub record Visited (n b : ℕ) (m p : Matrix) (lacks : ℕ → ℕ) (i : ℕ) : Type 0 where
  pub done : (x y : ℕ) → x < i → y < n → p x y ≡ m x y + min (up_lack n b m p x y) (down_lack n b m p x y)
  pub rest : (x y : ℕ) → i ≤ x → p x y ≡ m x y
  pub beyond : (x y : ℕ) → n ≤ y → p x y ≡ m x y
  pub lacked : (y : ℕ) → y < n → lacks y ≡ b - (downlink_sum n m y + sum_below i (λ k. p k y - m k y))

pub start : (n b : ℕ) (m p : Matrix) (lacks : ℕ → ℕ) → p ≡ m → ((y : ℕ) → y < n → lacks y ≡ b - downlink_sum n m y) → Visited n b m p lacks 0
start n b m p lacks e h = record {
  done = λ x y lx ly. absurd (omega arith);
  rest = λ x y _. ap (λ (f : Matrix). f x y) e;
  beyond = λ x y _. ap (λ (f : Matrix). f x y) e;
  lacked = λ y ly. omega (arith, h y ly);
}

-- all rows are visited
pub all_visited : (n b : ℕ) (m p : Matrix) (lacks : ℕ → ℕ) (i : ℕ) → i ≡ n → b ≡ busiest n m → Visited n b m p lacks i → Padded n m p
all_visited n b m p lacks i whole is v =
    let padded : PaddedTo n b m p = λ x y lx ly. v.done x y (omega arith) ly in
    rw is at padded

pub visited_blank : (n b : ℕ) (m p : Matrix) (lacks : ℕ → ℕ) (i : ℕ) → i ≡ n → Visited n b m p lacks i → Blank n m → Blank n p
visited_blank n b m p lacks i whole v h x y (inl l) = v.rest x y (omega arith) ∙ h x y (inl l)
visited_blank n b m p lacks i whole v h x y (inr l) = v.beyond x y l ∙ h x y (inr l)

-- row i is visited, and becomes r
module _ (n b : ℕ) (m p q : Matrix) (lacks lacks' : ℕ → ℕ) (i k lack : ℕ) (r : ℕ → ℕ) (v : Visited n b m p lacks i) (same : k ≡ n) (is : lack ≡ b - uplink_sum n m i) (row : RowVisited k lack (p i) r lacks lacks') (here : (y : ℕ) → q i y ≡ r y) (others : (x y : ℕ) → (x ≡ i → ⊥) → q x y ≡ p x y) where
  -- what was added above row x in column y
  above : (x y : ℕ) → x ≤ i → sum_below x (λ k. q k y - m k y) ≡ sum_below x (λ k. p k y - m k y)
  above x y l = sum_same x (λ k. q k y - m k y) (λ k. p k y - m k y) (λ k lk. ap (λ z. z - m k y) (others k y (λ e. omega arith)))

  -- what was added in row i before column y
  before : (y : ℕ) → sum_below y (λ k. r k - p i k) ≡ sum_below y (λ k. q i k - m i k)
  before y = sum_same y (λ k. r k - p i k) (λ k. q i k - m i k) (λ k _. omega (arith, here k, v.rest i k (omega arith)))

  in_row : (x y : ℕ) → (x ≡ i → ⊥) → sum_below y (λ k. q x k - m x k) ≡ sum_below y (λ k. p x k - m x k)
  in_row x y ne = sum_same y (λ k. q x k - m x k) (λ k. p x k - m x k) (λ k _. ap (λ z. z - m x k) (others x k ne))

  done : (x y : ℕ) → x < i + 1 → y < n → q x y ≡ m x y + min (up_lack n b m q x y) (down_lack n b m q x y)
  done x y lx ly =
      elim (cases_eq x i) [
        | inl e ↦ rw e (omega (arith, here y, row.adds y (omega arith), v.rest i y (omega arith), before y, above i y (omega arith), v.lacked y ly))
        | inr ne ↦ omega (arith, others x y ne, in_row x y ne, above x y (omega arith), v.done x y (omega arith) ly)
      ]

  beyond : (x y : ℕ) → n ≤ y → q x y ≡ m x y
  beyond x y l = elim (cases_eq x i) [ inl e ↦ rw e (here y ∙ row.row_rest y (omega arith) ∙ v.beyond i y l) | inr ne ↦ others x y ne ∙ v.beyond x y l ]

  pub row_visited : Visited n b m q lacks' (i + 1)
  row_visited = record {
    done = done;
    rest = λ x y l. others x y (λ e. omega arith) ∙ v.rest x y (omega arith);
    beyond = beyond;
    lacked = λ y ly. omega (arith, here y, row.lowers y (omega arith), v.lacked y ly, v.rest i y (omega arith), above i y (omega arith), sum_next i (λ k. q k y - m k y));
  }
