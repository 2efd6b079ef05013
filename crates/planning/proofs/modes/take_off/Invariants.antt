use Rattle.std.proofs.Common.{◌≡◌, ℕ, ◌<◌, ◌≤◌}
use Rattle.lines.specs.Matrix.{cells}
use Rattle.planning.specs.Making.{minus, matched}
use Rattle.planning.proofs.modes.take_off.Given as goal

-- the rows before i have lost the dwell, and the others are as they were
abbrev pub invariant-loop-i : goal.invariant-loop-i
invariant-loop-i l =
    ((x y : ℕ) → x < l.i → cells l.row-items x y ≡ minus (cells l.initial.row-items) (matched l.mates l.dwell) x y)
    × ((x y : ℕ) → l.i ≤ x → cells l.row-items x y ≡ cells l.initial.row-items x y)
