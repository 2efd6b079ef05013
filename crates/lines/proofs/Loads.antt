-- Laws of line sums and of the busiest line, each once for both kinds of line. Assumes nothing.
use Rattle.std.proofs.Common.{◌≡◌, ℕ, ◌+◌, ◌<◌, ◌≤◌, refl, arith}
use Rattle.lines.specs.declared.Line.{Line}
use Rattle.lines.specs.declared.Line.TheVariants.{Up, Down}
use Rattle.lines.specs.Sums.{sum_below}
use Rattle.lines.specs.Matrix.{Matrix, uplink, downlink, uplink_sum, downlink_sum, load, Inside, total, busiest}
use Rattle.lines.proofs.Sums.{sum_zeros, sum_same, sum_le, sum_add, term_le_sum, largest_bounds, largest_least}

module _ (n : ℕ) where
  pub load_same : (l : Line) (f g : Matrix) → Inside n l → ((a b : ℕ) → a < n → b < n → f a b ≡ g a b) → load n l f ≡ load n l g
  load_same (Up i) f g h e = sum_same n (λ j. f i.0 j) (λ j. g i.0 j) (λ j k. e i.0 j h k)
  load_same (Down j) f g h e = sum_same n (λ i. f i j.0) (λ i. g i j.0) (λ i k. e i j.0 k h)

  pub load_le : (l : Line) (f g : Matrix) → ((a b : ℕ) → f a b ≤ g a b) → load n l f ≤ load n l g
  load_le (Up i) f g e = sum_le n (λ j. f i.0 j) (λ j. g i.0 j) (λ j k. e i.0 j)
  load_le (Down j) f g e = sum_le n (λ i. f i j.0) (λ i. g i j.0) (λ i k. e i j.0)

  pub load_add : (l : Line) (f g : Matrix) → load n l (λ a b. f a b + g a b) ≡ load n l f + load n l g
  load_add (Up i) f g = sum_add n (λ j. f i.0 j) (λ j. g i.0 j)
  load_add (Down j) f g = sum_add n (λ i. f i j.0) (λ i. g i j.0)

  pub load_total : (l : Line) (f : Matrix) → Inside n l → load n l f ≤ total n f
  load_total (Up i) f h = term_le_sum n (λ k. sum_below n (λ j. f k j)) i.0 h
  load_total (Down j) f h = sum_le n (λ i. f i j.0) (λ i. sum_below n (λ k. f i k)) (λ i k. term_le_sum n (λ m. f i m) j.0 h)

  pub load_none : (l : Line) → load n l (λ a b. 0) ≡ 0
  load_none (Up i) = sum_zeros n (λ _. 0) (λ _ _. refl)
  load_none (Down j) = sum_zeros n (λ _. 0) (λ _ _. refl)

  -- the busiest line is at most x where each line is
  pub busiest_bound : (f : Matrix) (x : ℕ) → ((l : Line) → Inside n l → load n l f ≤ x) → busiest n f ≤ x
  busiest_bound f x h =
      omega (arith, largest_least n (uplink_sum n f) x (λ i k. h (Up (uplink i)) k), largest_least n (downlink_sum n f) x (λ j k. h (Down (downlink j)) k))

  pub load_busiest : (l : Line) (f : Matrix) → Inside n l → load n l f ≤ busiest n f
  load_busiest (Up i) f h = omega (arith, largest_bounds n (uplink_sum n f) i.0 h)
  load_busiest (Down j) f h = omega (arith, largest_bounds n (downlink_sum n f) j.0 h)
