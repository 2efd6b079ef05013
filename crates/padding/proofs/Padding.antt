-- Padding fills every line. Assumes nothing.
use Rattle.std.proofs.Common.{◌≡◌, ℕ, zero, suc, ◌+◌, ◌-◌, ◌*◌, ◌<◌, ◌≤◌, min, ◌⊎◌, sym, ◌∙◌, inl, inr, arith}
use Rattle.std.proofs.lemmas.Bool.{cases_eq, cases_lt}
use Rattle.lines.specs.Sums.{sum_below}
use Rattle.lines.specs.Matrix.{Matrix, uplink_sum, downlink_sum, busiest, Even, Same, Blank}
use Rattle.padding.specs.Padding.{PaddedTo, Padded, Padding}
use Rattle.lines.proofs.Sums.{sum_same, sum_add, sum_const, sum_swap, sum_prefix, sum_tight}
use Rattle.owed.proofs.Busiest.{up_le_busiest, down_le_busiest}

-- a is added at the visits where uplink i lacks u i and downlink j lacks d j at first
module _ (n : ℕ) (u d : ℕ → ℕ) (a : Matrix) (visits : (i j : ℕ) → i < n → j < n → a i j ≡ min (u i - sum_below j (a i)) (d j - sum_below i (λ k. a k j))) where
  row_within : (i j : ℕ) → i < n → j ≤ n → sum_below j (a i) ≤ u i
  row_within i zero li lj = omega arith
  row_within i (suc j) li lj = omega (arith, row_within i j li (omega arith), visits i j li (omega arith))

  col_within : (i j : ℕ) → i ≤ n → j < n → sum_below i (λ k. a k j) ≤ d j
  col_within zero j li lj = omega arith
  col_within (suc i) j li lj = omega (arith, col_within i j (omega arith) lj, visits i j (omega arith) lj)

  -- a visit leaves one of its two lines full
  one_full : (i j : ℕ) → i < n → j < n → (sum_below n (a i) ≡ u i) ⊎ (sum_below n (λ k. a k j) ≡ d j)
  one_full i j li lj =
      let row : sum_below j (a i) + a i j ≤ sum_below n (a i) = sum_prefix (suc j) n (a i) lj in
      let col : sum_below i (λ k. a k j) + a i j ≤ sum_below n (λ k. a k j) = sum_prefix (suc i) n (λ k. a k j) li in
      elim (cases_lt (u i - sum_below j (a i)) (d j - sum_below i (λ k. a k j))) [
        | inl l ↦ inl (omega (arith, visits i j li lj, row, row_within i n li (omega arith)))
        | inr l ↦ inr (omega (arith, visits i j li lj, col, col_within n j (omega arith) lj))
      ]

  module _ (same : sum_below n u ≡ sum_below n d) where
    rows_full : (i : ℕ) → i < n → sum_below n (a i) ≡ u i
    rows_full i li =
        elim (cases_eq (sum_below n (a i)) (u i)) [
          | inl e ↦ e
          | inr ne ↦
              (let cols : sum_below n (λ j. sum_below n (λ k. a k j)) ≡ sum_below n d = sum_same n _ _ (λ j lj. elim (one_full i j li lj) [ inl e ↦ absurd (ne e) | inr e ↦ e ]) in
              sum_tight n (λ k. sum_below n (a k)) u (λ k lk. row_within k n lk (omega arith)) (omega (arith, sum_swap n n a, cols, same)) i li)
        ]

    cols_full : (j : ℕ) → j < n → sum_below n (λ k. a k j) ≡ d j
    cols_full j lj = sum_tight n (λ j. sum_below n (λ k. a k j)) d (λ k lk. col_within n k (omega arith) lk) (omega (arith, sum_swap n n a, sum_same n (λ k. sum_below n (a k)) u rows_full, same)) j lj

-- what the lines lack, in all
lacks : (n b : ℕ) (s : ℕ → ℕ) → ((k : ℕ) → k < n → s k ≤ b) → sum_below n (λ k. b - s k) + sum_below n s ≡ n * b
lacks n b s h = sym (sum_add n (λ k. b - s k) s) ∙ sum_same n (λ k. b - s k + s k) (λ _. b) (λ k l. omega (arith, h k l)) ∙ sum_const n b

-- p is m and what was added
pub keeps : (n b : ℕ) (m p : Matrix) → PaddedTo n b m p → (i j : ℕ) → i < n → j < n → m i j ≤ p i j
keeps n b m p h i j li lj = omega (arith, h i j li lj)

-- no unit is taken away
pub keeps_all : (n b : ℕ) (m p : Matrix) → PaddedTo n b m p → Blank n m → (i j : ℕ) → m i j ≤ p i j
keeps_all n b m p h blank i j =
    elim (cases_lt i n) [
      | inl li ↦ elim (cases_lt j n) [ inl lj ↦ keeps n b m p h i j li lj | inr over ↦ omega (arith, blank i j (inr over)) ]
      | inr over ↦ omega (arith, blank i j (inl over))
    ]

pub padding_fills : (n : ℕ) (m p : Matrix) → Padded n m p → Even n (busiest n m) p
padding_fills n m p h = (
  λ i li. omega (arith, rows_full n u d a visits same i li, up_le_busiest n m i li, parts_up i li),
  λ j lj. omega (arith, cols_full n u d a visits same j lj, down_le_busiest n m j lj, parts_down j lj),
)
  where
    b : ℕ
    b = busiest n m

    u : ℕ → ℕ
    u i = b - uplink_sum n m i

    d : ℕ → ℕ
    d j = b - downlink_sum n m j

    a : Matrix
    a i j = p i j - m i j

    visits : (i j : ℕ) → i < n → j < n → a i j ≡ min (u i - sum_below j (a i)) (d j - sum_below i (λ k. a k j))
    visits i j li lj = omega (arith, h i j li lj)

    same : sum_below n u ≡ sum_below n d
    same = omega (arith, lacks n b (uplink_sum n m) (up_le_busiest n m), lacks n b (downlink_sum n m) (down_le_busiest n m), sum_swap n n m)

    parts_up : (i : ℕ) → i < n → uplink_sum n p i ≡ uplink_sum n m i + sum_below n (a i)
    parts_up i li = sum_same n (p i) (λ j. m i j + a i j) (λ j lj. omega (arith, keeps n b m p h i j li lj)) ∙ sum_add n (m i) (a i)

    parts_down : (j : ℕ) → j < n → downlink_sum n p j ≡ downlink_sum n m j + sum_below n (λ i. a i j)
    parts_down j lj = sum_same n (λ i. p i j) (λ i. m i j + a i j) (λ i li. omega (arith, keeps n b m p h i j li lj)) ∙ sum_add n (λ i. m i j) (λ i. a i j)

pub padding_single : (n b : ℕ) (m p q : Matrix) → PaddedTo n b m p → PaddedTo n b m q → Same n p q
padding_single n b m p q hp hq i j li lj = rows (suc i) li i j (omega arith) lj
  where
    -- row i up to column j, from the rows above
    row : (i : ℕ) → i < n → ((k j : ℕ) → k < i → j < n → p k j ≡ q k j) → (j : ℕ) → j ≤ n → (k : ℕ) → k < j → p i k ≡ q i k
    row i li above zero lj k lk = absurd (omega arith)
    row i li above (suc j) lj k lk =
        let before : (x : ℕ) → x < j → p i x ≡ q i x = row i li above j (omega arith) in
        let up : sum_below j (λ x. p i x - m i x) ≡ sum_below j (λ x. q i x - m i x) = sum_same j _ _ (λ x lx. omega (arith, before x lx)) in
        let down : sum_below i (λ x. p x j - m x j) ≡ sum_below i (λ x. q x j - m x j) = sum_same i _ _ (λ x lx. omega (arith, above x j lx (omega arith))) in
        let here : p i j ≡ q i j = omega (arith, hp i j li (omega arith), hq i j li (omega arith), up, down) in
        elim (cases_eq k j) [ inl e ↦ rw e here | inr ne ↦ before k (omega arith) ]

    rows : (i : ℕ) → i ≤ n → (k j : ℕ) → k < i → j < n → p k j ≡ q k j
    rows zero li k j lk lj = absurd (omega arith)
    rows (suc i) li k j lk lj =
        elim (cases_eq k i) [ inl e ↦ rw e (row i (omega arith) (rows i (omega arith)) n (omega arith) j lj) | inr ne ↦ rows i (omega arith) k j (omega arith) lj ]

-- all that holds of the padded matrix, from its visits
pub padding : (n : ℕ) (m p : Matrix) → Blank n m → Padded n m p → Blank n p → Padding n m p
padding n m p blank visits blank' = record {
  visits = visits;
  blank = blank';
  fills = padding_fills n m p visits;
  keeps = keeps_all n (busiest n m) m p visits blank;
  single = λ q other. padding_single n (busiest n m) m q p other visits;
}
