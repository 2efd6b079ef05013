-- The first entries of a row of grants, as they are made one by one. Assumes nothing.
use Rattle.std.proofs.Common.{◌≡◌, ℕ, zero, suc, ◌<◌, ◌≤◌, List, [], ◌∷◌, length, get_or, set, replicate, None, Option, refl, ap, arith}
use Rattle.schedule.specs.declared.Join.{Join}
use Rattle.steps.specs.WholeMode.{front}

pub front_none : (row : List (Option Join)) → front 0 row ≡ replicate (length row) None
front_none [] = refl
front_none (x ∷ row) = ap (λ r. None ∷ r) (front_none row)

-- one entry more
pub front_more : (i : ℕ) (row : List (Option Join)) → i < length row → front (suc i) row ≡ set (front i row) i (get_or row i None)
front_more i [] within = absurd (omega arith)
front_more zero (x ∷ row) within = refl
front_more (suc i) (x ∷ row) within = let fewer : i < length row = omega arith in ap (λ r. x ∷ r) (front_more i row fewer)

-- an entry without a grant changes nothing
pub front_still : (i : ℕ) (row : List (Option Join)) → get_or row i None ≡ None → front (suc i) row ≡ front i row
front_still i [] is = refl
front_still zero (x ∷ row) is = ap (λ y. y ∷ front 0 row) is
front_still (suc i) (x ∷ row) is = ap (λ r. x ∷ r) (front_still i row is)

pub front_all : (i : ℕ) (row : List (Option Join)) → length row ≤ i → front i row ≡ row
front_all i [] past = refl
front_all zero (x ∷ row) past = absurd (omega arith)
front_all (suc i) (x ∷ row) past = let fewer : length row ≤ i = omega arith in ap (λ r. x ∷ r) (front_all i row fewer)

pub front_before : (i k : ℕ) (row : List (Option Join)) → k < i → get_or (front i row) k None ≡ get_or row k None
front_before i k [] l = refl
front_before zero k (x ∷ row) l = absurd (omega arith)
front_before (suc i) zero (x ∷ row) l = refl
front_before (suc i) (suc k) (x ∷ row) l = let fewer : k < i = omega arith in front_before i k row fewer

pub front_past : (i k : ℕ) (row : List (Option Join)) → i ≤ k → get_or (front i row) k None ≡ None
front_past i k [] l = refl
front_past zero zero (x ∷ row) l = refl
front_past zero (suc k) (x ∷ row) l = let fewer : 0 ≤ k = omega arith in front_past zero k row fewer
front_past (suc i) zero (x ∷ row) l = absurd (omega arith)
front_past (suc i) (suc k) (x ∷ row) l = let fewer : i ≤ k = omega arith in front_past i k row fewer
