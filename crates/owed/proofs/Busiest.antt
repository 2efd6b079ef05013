-- The busiest line bounds each line. Assumes nothing.
use Rattle.std.proofs.Common.{◌≡◌, ℕ, zero, suc, ◌+◌, ◌<◌, ◌≤◌, max, [], ◌∷◌, ◌++◌, sym, refl, ap, ◌∙◌, inl, inr, arith}
use Rattle.std.specs.List.{fold, range_with_len}
use Rattle.std.proofs.lemmas.List.{map-id}
use Rattle.std.proofs.lemmas.List.FromFn.{map-range_with_len_more}
use Rattle.std.proofs.lemmas.List.Sums.{fold_push}
use Rattle.lines.specs.Sums.{largest_below}
use Rattle.std.proofs.lemmas.Bool.{cases_eq}
use Rattle.lines.specs.declared.Line.{Line}
use Rattle.lines.specs.declared.Line.TheVariants.{Up, Down}
use Rattle.lines.specs.Matrix.{Matrix, uplink, downlink, uplink_sum, downlink_sum, load, Inside, busiest, Wrote, Blank}
use Rattle.lines.proofs.Sums.{sum_same, sum_change}
use Rattle.lines.proofs.Loads.{load_le, load_none, load_busiest, busiest_bound}

pub up_le_busiest : (n : ℕ) (m : Matrix) (i : ℕ) → i < n → uplink_sum n m i ≤ busiest n m
up_le_busiest n m i l = load_busiest n (Up (uplink i)) m l

pub down_le_busiest : (n : ℕ) (m : Matrix) (j : ℕ) → j < n → downlink_sum n m j ≤ busiest n m
down_le_busiest n m j l = load_busiest n (Down (downlink j)) m l

-- v in place of what is at (i, j), where both its lines have room for the change
pub wrote_busiest : (n b : ℕ) (p q : Matrix) (i j v : ℕ) → i < n → j < n → busiest n p ≤ b → Wrote p q i j v → uplink_sum n p i + v ≤ b + p i j → downlink_sum n p j + v ≤ b + p i j → busiest n q ≤ b
wrote_busiest n b p q i j v li lj h wrote up down = busiest_bound n q b each
  where
    each : (l : Line) → Inside n l → load n l q ≤ b
    each (Up x) lx =
        elim (cases_eq x.0 i) [
          | inl e ↦ rw e (omega (arith, up, wrote.0, sum_change n (q i) (p i) j lj (λ y _ ne. wrote.1 i y (λ _ ey. ne ey))))
          | inr ne ↦ omega (arith, h, up_le_busiest n p x.0 lx, sum_same n (q x.0) (p x.0) (λ y _. wrote.1 x.0 y (λ e _. ne e)))
        ]
    each (Down y) ly =
        elim (cases_eq y.0 j) [
          | inl e ↦ rw e (omega (arith, down, wrote.0, sum_change n (λ x. q x j) (λ x. p x j) i li (λ x _ ne. wrote.1 x j (λ ex _. ne ex))))
          | inr ne ↦ omega (arith, h, down_le_busiest n p y.0 ly, sum_same n (λ x. q x y.0) (λ x. p x y.0) (λ x _. wrote.1 x y.0 (λ _ e. ne e)))
        ]

-- nothing is written outside the crosspoints
pub wrote_blank : (n : ℕ) (p q : Matrix) (i j v : ℕ) → i < n → j < n → Blank n p → Wrote p q i j v → Blank n q
wrote_blank n p q i j v li lj h wrote x y (inl o) = wrote.1 x y (λ e _. omega arith) ∙ h x y (inl o)
wrote_blank n p q i j v li lj h wrote x y (inr o) = wrote.1 x y (λ _ e. omega arith) ∙ h x y (inr o)

-- nothing is owed
pub zero_busiest : (n : ℕ) (m : Matrix) → ((x y : ℕ) → m x y ≡ 0) → busiest n m ≤ 0
zero_busiest n m z = busiest_bound n m 0 (λ l _. omega (arith, load_le n l m (λ _ _. 0) (λ a b. omega (arith, z a b)), load_none n l))

-- the numbers below k and one more
range_more : (k : ℕ) → range_with_len 0 (suc k) ≡ range_with_len 0 k ++ k ∷ []
range_more k =
    let next : suc k ≡ k + 1 = omega arith in
    ap (range_with_len 0) next ∙ sym (map-id (range_with_len 0 (k + 1))) ∙ map-range_with_len_more (λ x. x) 0 k k (omega arith) ∙ ap (λ xs. xs ++ k ∷ []) (map-id (range_with_len 0 k))

module _ (f g : ℕ → ℕ) where
  abbrev pub larger : ℕ → ℕ → ℕ
  larger most k = max most (max (f k) (g k))

  -- the largest of two, number by number
  pub largest_fold : (n : ℕ) → fold larger 0 (range_with_len 0 n) ≡ max (largest_below n f) (largest_below n g)
  largest_fold zero = refl
  largest_fold (suc n) = ap (fold larger 0) (range_more n) ∙ fold_push larger 0 (range_with_len 0 n) n ∙ omega (arith, largest_fold n)
