use Rattle.std.proofs.Common.{◌≡◌, ℕ, ◌<◌, length, get_or}
use Rattle.lines.specs.Matrix.{downlink}
use Rattle.matching.specs.Answers.{unused}
use Rattle.augmenting.specs.Holders.{holder, Idle}
use Rattle.augmenting.proofs.pairing.Pairing.mates.Given as goal

abbrev pub invariant-loop-down : goal.invariant-loop-down
invariant-loop-down l =
    ((j : ℕ) → j < l.down → holder l.self.holders j < 16 → get_or l.mates (holder l.self.holders j) unused ≡ downlink j)
    × ((u : ℕ) → u < 16 → Idle l.self.holders u → get_or l.mates u unused ≡ unused) × (length l.mates ≡ 16)
