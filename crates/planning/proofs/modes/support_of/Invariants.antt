use Rattle.std.proofs.Common.{◌≡◌, ℕ, ◌<◌, ◌≤◌, length, get_or}
use Rattle.lines.specs.Matrix.{cells}
use Rattle.planning.specs.Supports.{support, in_bits}
use Rattle.planning.proofs.modes.support_of.Given as goal

-- the rows before i are there, and the others are empty
abbrev pub invariant-loop-i : goal.invariant-loop-i
invariant-loop-i l = ((k : ℕ) → k < l.i → get_or l.rows k 0 ≡ in_bits 16 (support (cells l.fn.p) k)) × ((k : ℕ) → l.i ≤ k → get_or l.rows k 0 ≡ 0) × (length l.rows ≡ 16)
