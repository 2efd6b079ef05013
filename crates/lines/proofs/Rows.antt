-- The first rows of a matrix, and what a loop over them leaves. Assumes nothing.
use Rattle.std.proofs.Common.{◌≡◌, ℕ, ◌+◌, ◌-◌, ◌<◌, ◌≤◌, List, [], ◌++◌, length, get_or, take, drop, ap, ◌∙◌, arith}
use Rattle.std.proofs.lemmas.List.{get_or-take, get_or-drop, get_or-append_right}
use Rattle.std.proofs.Math.ListN.{get_or-append}
use Rattle.lines.specs.Matrix.{cells}

-- the first n rows
pub cells_first : (n : ℕ) (rows : List (List ℕ)) (x y : ℕ) → x < n → cells (take n rows) x y ≡ cells rows x y
cells_first n rows x y l = ap (λ (row : List ℕ). get_or row y 0) (get_or-take n rows x [] l)

-- other rows in the place of the first n
pub cells_before : (first rest : List (List ℕ)) (x y : ℕ) → x < length first → cells (first ++ rest) x y ≡ cells first x y
cells_before first rest x y l = ap (λ (row : List ℕ). get_or row y 0) (get_or-append first rest [] x l)

pub cells_behind : (first rows : List (List ℕ)) (n x y : ℕ) → length first ≡ n → n ≤ x → cells (first ++ drop n rows) x y ≡ cells rows x y
cells_behind first rows n x y long over =
    let back : n + (x - n) ≡ x = omega arith in
    ap (λ (row : List ℕ). get_or row y 0) (get_or-append_right first (drop n rows) n x [] long over ∙ get_or-drop n rows (x - n) [] ∙ ap (λ k. get_or rows k []) back)
