use Rattle.std.proofs.Common.{◌≡◌, ℕ, ◌<◌, ◌≤◌, length, get_or, None}
use Rattle.lines.specs.Matrix.{cells}
use Rattle.schedule.specs.Modes.{units_to}
use Rattle.planning.specs.Making.{minus, grant_at}
use Rattle.planning.proofs.modes.grant_all.Given as goal

-- the uplinks before i have their grants, and the others have none and are as they were
abbrev pub invariant-loop-i : goal.invariant-loop-i
invariant-loop-i l =
    ((k : ℕ) → k < l.i → get_or l.grants k None ≡ grant_at l.fn.lines.count l.dwell (cells l.initial.row-items) l.mates k)
    × ((k : ℕ) → l.i ≤ k → get_or l.grants k None ≡ None)
    × ((x y : ℕ) → cells l.row-items x y ≡ minus (cells l.initial.row-items) (λ i j. units_to j (get_or l.grants i None)) x y)
    × (length l.grants ≡ 16)
