-- Rows of grants. Assumes nothing.
use Rattle.std.proofs.Common.{ℕ, zero, suc, List, [], ◌∷◌, get_or, set, replicate, None, Option}

-- what holds of each entry holds after one is written
pub set_all : {X : Type 0} (P : Option X → Type 0) (row : List (Option X)) (k : ℕ) (y : Option X) → ((i : ℕ) → P (get_or row i None)) → P y → (i : ℕ) → P (get_or (set row k y) i None)
set_all P [] k y each here i = each i
set_all P (x ∷ row) zero y each here zero = here
set_all P (x ∷ row) zero y each here (suc i) = each (suc i)
set_all P (x ∷ row) (suc k) y each here zero = each zero
set_all P (x ∷ row) (suc k) y each here (suc i) = set_all P row k y (λ n. each (suc n)) here i

-- what holds of x holds of each entry of a list of nothing else
pub all_replicate : {X : Type 0} (P : X → Type 0) (n : ℕ) (x d : X) → P x → P d → (i : ℕ) → P (get_or (replicate n x) i d)
all_replicate P zero x d here past i = past
all_replicate P (suc n) x d here past zero = here
all_replicate P (suc n) x d here past (suc i) = all_replicate P n x d here past i
