-- What is left to plan, before and after a mode. Assumes nothing.
use Rattle.std.specs.Prelude.{◌≡◌, ℕ, ◌-◌, List}
use Rattle.lines.specs.declared.Downlink.{Downlink}
use Rattle.lines.specs.Matrix.{Matrix, cells, busiest}
use Rattle.matching.specs.declared.EngineAnswer.TheVariants.{Matching}
use Rattle.matching.specs.Answers.{May}
use Rattle.schedule.specs.declared.Mode.{Mode}
use Rattle.padding.specs.Padding.{Padding}
use Rattle.planning.specs.Supports.{support_rows}
use Rattle.planning.specs.Making.{Usable, Turned}
use Rattle.planning.specs.declared.rest.Rest.{Rest}

abbrev pub rest_lines : Rest → ℕ
rest_lines r = r.lines.count

-- the padded numbers
abbrev pub rest_padded : Rest → Matrix
rest_padded r = cells r.padded

-- the units not yet planned
abbrev pub rest_owed : Rest → Matrix
rest_owed r = cells r.unplanned

-- everything is left of the m owed on n lines
pub record Whole (n : ℕ) (m : Matrix) (r : Rest) : Type 0 where
  pub lines : rest_lines r ≡ n
  pub left : r.left ≡ busiest n m
  pub pads : Padding n m (rest_padded r)
  pub owed : rest_owed r ≡ m

-- a matching that the engine may give for what is left, and the numbers on it fit a dwell
pub record Given (may : May) (r : Rest) (mates : List Downlink) : Type 0 where
  pub asked : may (rest_lines r) (support_rows (rest_lines r) (rest_padded r)) (Matching mates)
  pub usable : Usable (rest_lines r) (rest_padded r) mates

-- such a matching became the mode m, and r' is left
pub record Step (may : May) (r r' : Rest) (m : Mode) : Type 0 where
  pub mates : List Downlink
  pub asked : may (rest_lines r) (support_rows (rest_lines r) (rest_padded r)) (Matching mates)
  pub turned : Turned (rest_lines r) (rest_padded r) (rest_owed r) (rest_padded r') (rest_owed r') mates m
  pub lines : rest_lines r' ≡ rest_lines r
  pub left : r'.left ≡ r.left - m.dwell
