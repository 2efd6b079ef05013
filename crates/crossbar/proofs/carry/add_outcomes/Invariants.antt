use Rattle.std.proofs.Common.{◌≡◌, ℕ, ◌+◌, ◌<◌, ◌≤◌, [], length, get_or, None}
use Rattle.lines.specs.Matrix.{cells}
use Rattle.switch.specs.Calls.{carried_to}
use Rattle.crossbar.proofs.carry.add_outcomes.Given as goal

-- the rows below i have their outcomes, and the others are as they were
abbrev pub invariant-loop-i : goal.invariant-loop-i
invariant-loop-i l =
    ((k : ℕ) → k < 16 → length (get_or l.carried k []) ≡ 16)
    × ((k j : ℕ) → k < l.i → cells l.carried k j ≡ cells l.initial.carried k j + carried_to j (get_or l.all k None))
    × ((k : ℕ) → l.i ≤ k → get_or l.carried k [] ≡ get_or l.initial.carried k [])
