use Rattle.std.proofs.Common.{ℕ, ◌<◌, ◌≤◌}
use Rattle.augmenting.specs.Holders.{Edges, Busy, Idle}
use Rattle.kuhn.proofs.answer.Given as goal

-- each uplink before this one holds a downlink, and no other does
abbrev pub invariant-loop-up : goal.invariant-loop-up
invariant-loop-up l =
    Edges l.cut l.pairing.holders × ((u : ℕ) → u < l.up → Busy l.pairing.holders u) × ((u : ℕ) → l.up ≤ u → u < 16 → Idle l.pairing.holders u)
