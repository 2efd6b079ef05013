-- A matrix held in rows. Assumes nothing.
use Rattle.std.proofs.Common.{◌≡◌, ℕ, zero, suc, ◌<◌, ◌≤◌, List, [], ◌∷◌, length, get_or, set, replicate, sum, sum_by, sym, refl, ap, ◌∙◌, inl, inr, arith, get_or-set_other, get_or-set_same}
use Rattle.std.proofs.lemmas.Bool.{cases_eq}
use Rattle.std.proofs.lemmas.List.Sums.{sum_by-cons}
use Rattle.lines.specs.Sums.{sum_below}
use Rattle.lines.specs.Matrix.{cells, uplink_sum, downlink_sum, Blank, Wrote}
use Rattle.lines.proofs.Sums.{sum_zeros, sum_front}

pub row_set : (rows : List (List ℕ)) (row : List ℕ) (i y : ℕ) → i < length rows → cells (set rows i row) i y ≡ get_or row y 0
row_set rows row i y li = ap (λ r. get_or r y 0) (get_or-set_same rows i row [] li)

pub row_kept : (rows : List (List ℕ)) (row : List ℕ) (i x y : ℕ) → (x ≡ i → ⊥) → cells (set rows i row) x y ≡ cells rows x y
row_kept rows row i x y ne = ap (λ r. get_or r y 0) (get_or-set_other rows i x row [] ne)

-- rows with a row that differs at j written at i
pub wrote_row : (rows : List (List ℕ)) (row : List ℕ) (i j v : ℕ) → i < length rows → get_or row j 0 ≡ v → ((k : ℕ) → (k ≡ j → ⊥) → get_or row k 0 ≡ get_or (get_or rows i []) k 0) → Wrote (cells rows) (cells (set rows i row)) i j v
wrote_row rows row i j v li here others = (row_set rows row i j li ∙ here, other)
  where
    other : (x y : ℕ) → (x ≡ i → y ≡ j → ⊥) → cells (set rows i row) x y ≡ cells rows x y
    other x y ne =
        elim (cases_eq x i) [
          | inl e ↦ rw e (row_set rows row i y li ∙ others y (ne e))
          | inr ex ↦ row_kept rows row i x y ex
        ]

-- a sum over a list is one over its places, where nothing stands from place n on
sum_places : {A : Type 0} (f : A → ℕ) (d : A) → f d ≡ 0 → (xs : List A) (n : ℕ) → ((k : ℕ) → n ≤ k → f (get_or xs k d) ≡ 0) → sum_by f xs ≡ sum_below n (λ k. f (get_or xs k d))
sum_places f d none [] n blank = sym (sum_zeros n (λ _. f d) (λ _ _. none))
sum_places f d none (x ∷ xs) zero blank = omega (arith, sum_by-cons f x xs, blank 0 (omega arith), sum_places f d none xs zero (λ k _. blank (suc k) (omega arith)))
sum_places f d none (x ∷ xs) (suc n) blank =
    omega (arith, sum_by-cons f x xs, sum_front n (λ k. f (get_or (x ∷ xs) k d)), sum_places f d none xs n (λ k l. blank (suc k) (omega arith)))

module _ (n : ℕ) (rows : List (List ℕ)) (blank : Blank n (cells rows)) where
  pub row_units : (i : ℕ) → sum (get_or rows i []) ≡ uplink_sum n (cells rows) i
  row_units i = sum_places (λ x. x) 0 refl (get_or rows i []) n (λ k l. blank i k (inr l))

  pub column_units : (j : ℕ) → sum_by (λ row. get_or row j 0) rows ≡ downlink_sum n (cells rows) j
  column_units j = sum_places (λ row. get_or row j 0) [] refl rows n (λ k l. blank k j (inl l))

-- a row of zeros, and a matrix of zeros
zero_row : (b y : ℕ) → ◌≡◌ {A = ℕ} (get_or (replicate b 0) y 0) 0
zero_row zero y = refl
zero_row (suc b) zero = refl
zero_row (suc b) (suc y) = zero_row b y

pub zeros : (a b x y : ℕ) → cells (replicate a (replicate b 0)) x y ≡ 0
zeros zero b x y = refl
zeros (suc a) b zero y = zero_row b y
zeros (suc a) b (suc x) y = zeros a b x y
