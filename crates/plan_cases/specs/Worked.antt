-- Worked plans: what holds of every plan for a few small matrices. Assumes nothing.
use Rattle.std.specs.Prelude.{◌≡◌, ◌≤◌, List, [], ◌∷◌, length}
use Rattle.lines.specs.Matrix.{Matrix, cells, busiest}
use Rattle.matching.specs.Answers.{May}
use Rattle.schedule.specs.declared.Mode.{Mode}
use Rattle.schedule.specs.Modes.{span}
use Rattle.padding.specs.Padding.{Padded}
use Rattle.planning.specs.Supports.{positives}
use Rattle.planning.specs.Making.{MadeBy}

-- rows 2 1 0, 0 1 2, 1 0 0
abbrev pub three : Matrix
three = cells ((2 ∷ 1 ∷ 0 ∷ []) ∷ (0 ∷ 1 ∷ 2 ∷ []) ∷ (1 ∷ 0 ∷ 0 ∷ []) ∷ [])

-- rows 2 1 0, 0 1 2, 1 1 1
abbrev pub three_padded : Matrix
three_padded = cells ((2 ∷ 1 ∷ 0 ∷ []) ∷ (0 ∷ 1 ∷ 2 ∷ []) ∷ (1 ∷ 1 ∷ 1 ∷ []) ∷ [])

-- five units on one line
abbrev pub five : Matrix
five = cells ((5 ∷ []) ∷ [])

pub record Worked (may : May) : Type 0 where
  pub three_busiest : busiest 3 three ≡ 3
  pub three_pads : Padded 3 three three_padded
  pub three_positives : positives 3 three_padded ≡ 7
  pub three_plans : (ms : List Mode) → MadeBy may 3 three ms → (span ms ≡ 3) × (length ms ≤ 5)
  pub five_plans : (ms : List Mode) → MadeBy may 1 five ms → (span ms ≡ 5) × (length ms ≡ 1)
