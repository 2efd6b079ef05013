use Rattle.std.proofs.Common.{◌≡◌, ℕ, ◌<◌, ◌≤◌, ◌&&◌, ltb, length, get_or}
use Rattle.matching.specs.Supports.{in_rows}
use Rattle.augmenting.proofs.within.Given as goal

abbrev pub invariant-loop-up : goal.invariant-loop-up
invariant-loop-up l =
    ((k j : ℕ) → k < l.up → in_rows l.row-items k j ≡ (in_rows l.fn.rows k j && (ltb k l.n && ltb j l.n)))
    × ((k : ℕ) → l.up ≤ k → get_or l.row-items k 0 ≡ get_or l.fn.rows k 0) × (length l.row-items ≡ 16)
