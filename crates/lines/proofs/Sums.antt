-- Laws of sums over the numbers below n. Assumes nothing.
use Rattle.std.proofs.Common.{◌≡◌, ℕ, zero, suc, ◌+◌, ◌*◌, ◌<◌, ◌≤◌, List, [], ◌∷◌, length, get_or, sum, sym, refl, ap, inl, inr, arith}
use Rattle.std.proofs.lemmas.Bool.{cases_eq}
use Rattle.std.proofs.lemmas.List.Sums.{sum_by-cons}
use Rattle.lines.specs.Sums.{sum_below, largest_below}

pub sum_zeros : (n : ℕ) (f : ℕ → ℕ) → ((k : ℕ) → k < n → f k ≡ 0) → sum_below n f ≡ 0
sum_zeros zero f h = refl
sum_zeros (suc n) f h = omega (arith, sum_zeros n f (λ k l. h k (omega arith)), h n (omega arith))

pub sum_same : (n : ℕ) (f g : ℕ → ℕ) → ((k : ℕ) → k < n → f k ≡ g k) → sum_below n f ≡ sum_below n g
sum_same zero f g h = refl
sum_same (suc n) f g h = omega (arith, sum_same n f g (λ k l. h k (omega arith)), h n (omega arith))

pub sum_le : (n : ℕ) (f g : ℕ → ℕ) → ((k : ℕ) → k < n → f k ≤ g k) → sum_below n f ≤ sum_below n g
sum_le zero f g h = omega arith
sum_le (suc n) f g h = omega (arith, sum_le n f g (λ k l. h k (omega arith)), h n (omega arith))

pub sum_add : (n : ℕ) (f g : ℕ → ℕ) → sum_below n (λ k. f k + g k) ≡ sum_below n f + sum_below n g
sum_add zero f g = refl
sum_add (suc n) f g = omega (arith, sum_add n f g)

pub sum_const : (n c : ℕ) → sum_below n (λ _. c) ≡ n * c
sum_const zero c = omega arith
sum_const (suc n) c = omega (arith, sum_const n c)

pub sum_times : (n : ℕ) (f : ℕ → ℕ) (c : ℕ) → sum_below n (λ k. f k * c) ≡ sum_below n f * c
sum_times zero f c = omega arith
sum_times (suc n) f c = omega (arith, sum_times n f c)

-- the sum of the first a and that of the b behind them
pub sum_split : (a b : ℕ) (f : ℕ → ℕ) → sum_below (a + b) f ≡ sum_below a f + sum_below b (λ k. f (a + k))
sum_split a zero f = let e : a + 0 ≡ a = omega arith in rw e (omega arith)
sum_split a (suc b) f =
    let e : a + suc b ≡ suc (a + b) = omega arith in
    rw e (omega (arith, sum_split a b f))

pub sum_swap : (n m : ℕ) (f : ℕ → ℕ → ℕ) → sum_below n (λ i. sum_below m (λ j. f i j)) ≡ sum_below m (λ j. sum_below n (λ i. f i j))
sum_swap zero m f = sym (sum_zeros m _ (λ k l. refl))
sum_swap (suc n) m f = omega (arith, sum_swap n m f, sum_add m (λ j. sum_below n (λ i. f i j)) (λ j. f n j))

-- a term is at most the sum
pub term_le_sum : (n : ℕ) (f : ℕ → ℕ) (k : ℕ) → k < n → f k ≤ sum_below n f
term_le_sum zero f k l = omega arith
term_le_sum (suc n) f k l = elim (cases_eq k n) [ inl e ↦ omega (arith, ap f e) | inr ne ↦ omega (arith, term_le_sum n f k (omega arith)) ]

-- f and g differ at most at k
pub sum_change : (n : ℕ) (f g : ℕ → ℕ) (k : ℕ) → k < n → ((x : ℕ) → x < n → (x ≡ k → ⊥) → f x ≡ g x) → sum_below n f + g k ≡ sum_below n g + f k
sum_change zero f g k l h = omega arith
sum_change (suc n) f g k l h =
    elim (cases_eq k n) [
      | inl e ↦ omega (arith, ap f e, ap g e, sum_same n f g (λ x lx. h x (omega arith) (omega arith)))
      | inr ne ↦ omega (arith, sum_change n f g k (omega arith) (λ x lx. h x (omega arith)), h n (omega arith) (omega arith))
    ]

-- only the term at k can differ from 0
pub sum_one : (n : ℕ) (f : ℕ → ℕ) (k : ℕ) → k < n → ((x : ℕ) → x < n → (x ≡ k → ⊥) → f x ≡ 0) → sum_below n f ≡ f k
sum_one n f k l h = omega (arith, sum_change n f (λ _. 0) k l h, sum_zeros n (λ _. 0) (λ _ _. refl))

-- prefixes grow
pub sum_prefix : (a n : ℕ) (f : ℕ → ℕ) → a ≤ n → sum_below a f ≤ sum_below n f
sum_prefix a zero f l = let e : a ≡ 0 = omega arith in rw e (omega arith)
sum_prefix a (suc n) f l = elim (cases_eq a (suc n)) [ inl e ↦ rw e (omega arith) | inr ne ↦ omega (arith, sum_prefix a n f (omega arith)) ]

-- terms that are each at most as large, with the same sum, are the same
pub sum_tight : (n : ℕ) (f g : ℕ → ℕ) → ((k : ℕ) → k < n → f k ≤ g k) → sum_below n g ≤ sum_below n f → (k : ℕ) → k < n → f k ≡ g k
sum_tight zero f g h s k l = omega arith
sum_tight (suc n) f g h s k l =
    let below : sum_below n f ≤ sum_below n g = sum_le n f g (λ x lx. h x (omega arith)) in
    let top : f n ≤ g n = h n (omega arith) in
    elim (cases_eq k n) [
      | inl e ↦ omega (arith, ap f e, ap g e)
      | inr ne ↦ sum_tight n f g (λ x lx. h x (omega arith)) (omega arith) k (omega arith)
    ]

-- 0s and 1s, of which at most one is 1
pub sum_at_most_one : (n : ℕ) (f : ℕ → ℕ) → ((k : ℕ) → k < n → f k ≤ 1) → ((x y : ℕ) → x < n → y < n → f x ≡ 1 → f y ≡ 1 → x ≡ y) → sum_below n f ≤ 1
sum_at_most_one zero f small single = omega arith
sum_at_most_one (suc n) f small single =
    elim (cases_eq (f n) 1) [
      | inl e ↦ omega (arith, sum_zeros n f (λ k l. elim (cases_eq (f k) 1) [ inl o ↦ absurd (ne k l (single k n (omega arith) (omega arith) o e)) | inr z ↦ omega (arith, small k (omega arith)) ]))
      | inr other ↦ omega (arith, small n (omega arith), sum_at_most_one n f (λ k l. small k (omega arith)) (λ x y lx ly. single x y (omega arith) (omega arith)))
    ]
  where
    ne : (k : ℕ) → k < n → k ≡ n → ⊥
    ne k l e = omega arith

pub largest_bounds : (n : ℕ) (f : ℕ → ℕ) (k : ℕ) → k < n → f k ≤ largest_below n f
largest_bounds zero f k l = omega arith
largest_bounds (suc n) f k l = elim (cases_eq k n) [ inl e ↦ omega (arith, ap f e) | inr ne ↦ omega (arith, largest_bounds n f k (omega arith)) ]

pub largest_least : (n : ℕ) (f : ℕ → ℕ) (b : ℕ) → ((k : ℕ) → k < n → f k ≤ b) → largest_below n f ≤ b
largest_least zero f b h = omega arith
largest_least (suc n) f b h = omega (arith, largest_least n f b (λ k l. h k (omega arith)), h n (omega arith))

-- the sum of a list's entries
pub sum_front : (n : ℕ) (f : ℕ → ℕ) → sum_below (suc n) f ≡ f 0 + sum_below n (λ k. f (suc k))
sum_front zero f = omega arith
sum_front (suc n) f = omega (arith, sum_front n f)

pub sum_list : (xs : List ℕ) → sum_below (length xs) (λ k. get_or xs k 0) ≡ sum xs
sum_list [] = refl
sum_list (x ∷ xs) = omega (arith, sum_front (length xs) (λ k. get_or (x ∷ xs) k 0), sum_list xs, sum_by-cons (λ x. x) x xs)

-- one term more, as a loop counts
pub sum_next : (n : ℕ) (f : ℕ → ℕ) → sum_below (n + 1) f ≡ sum_below n f + f n
sum_next n f = let e : n + 1 ≡ suc n = omega arith in rw e refl
