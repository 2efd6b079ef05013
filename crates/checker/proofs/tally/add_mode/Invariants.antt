use Rattle.std.proofs.Common.{◌≡◌, ℕ, ◌+◌, ◌<◌, ◌≤◌, length}
use Rattle.lines.specs.Matrix.{cells}
use Rattle.schedule.specs.Modes.{granted}
use Rattle.checker.proofs.tally.add_mode.Given as goal

-- the rows before i have got their units, and the others are as they were
abbrev pub invariant-loop-i : goal.invariant-loop-i
invariant-loop-i l =
    ((x y : ℕ) → x < l.i → cells l.totals x y ≡ cells l.initial.totals x y + granted l.mode x y)
    × ((x y : ℕ) → l.i ≤ x → cells l.totals x y ≡ cells l.initial.totals x y)
    × (length l.totals ≡ 16)
