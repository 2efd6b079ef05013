-- The first rows of a matrix that holds nothing outside its lines. Assumes nothing.
use Rattle.std.proofs.Common.{◌≡◌, ℕ, ◌≤◌, List, [], ◌++◌, length, get_or, take, drop, sym, ap, ◌∙◌, inl, inr, arith}
use mathlib.Core.Path.{fun_ext}
use Rattle.std.proofs.lemmas.Bool.{cases_lt}
use Rattle.std.proofs.lemmas.List.{get_or_past, length-take}
use Rattle.lines.specs.Matrix.{Matrix, cells, Blank}
use Rattle.lines.proofs.Rows.{cells_first, cells_before, cells_behind}

-- rows that hold such a matrix
pub blank_rows : (n k : ℕ) (m : Matrix) (rows : List (List ℕ)) → n ≡ k → cells rows ≡ m → Blank k m → Blank n (cells rows)
blank_rows n k m rows same e blank x y (inl over) = ap (λ (f : Matrix). f x y) e ∙ blank x y (inl (omega arith))
blank_rows n k m rows same e blank x y (inr over) = ap (λ (f : Matrix). f x y) e ∙ blank x y (inr (omega arith))

none_past : (rows : List (List ℕ)) (x y : ℕ) → length rows ≤ x → cells rows x y ≡ 0
none_past rows x y over = ap (λ (row : List ℕ). get_or row y 0) (get_or_past rows x [] over)

-- they are the whole matrix
pub first_rows : (n : ℕ) (rows : List (List ℕ)) → Blank n (cells rows) → cells (take n rows) ≡ cells rows
first_rows n rows blank =
    fun_ext (λ x. fun_ext (λ y. elim (cases_lt x n) [
      | inl l ↦ cells_first n rows x y l
      | inr over ↦ none_past (take n rows) x y (omega (arith, length-take n rows)) ∙ sym (blank x y (inl over))
    ]))

-- and so are others in their place
pub other_rows : (n : ℕ) (first rows : List (List ℕ)) → length first ≡ n → Blank n (cells rows) → cells (first ++ drop n rows) ≡ cells first
other_rows n first rows long blank =
    fun_ext (λ x. fun_ext (λ y. elim (cases_lt x n) [
      | inl l ↦ cells_before first (drop n rows) x y (omega arith)
      | inr over ↦ cells_behind first rows n x y long over ∙ blank x y (inl over) ∙ sym (none_past first x y (omega arith))
    ]))
