use Rattle.std.proofs.Common.{◌≡◌, ℕ, ◌<◌}
use Rattle.lines.specs.Sets.{In}
use Rattle.augmenting.specs.Holders.{holder}
use Rattle.augmenting.proofs.pairing.Pairing.holders_of.Given as goal

abbrev pub invariant-loop-down : goal.invariant-loop-down
invariant-loop-down l =
    ((u : ℕ) → In l.set u → (u < 16) × ((j : ℕ) × (j < 16) × In l.downs j × (holder l.self.holders j ≡ u)))
    × ((j : ℕ) → j < l.down → In l.downs j → holder l.self.holders j < 16 → In l.set (holder l.self.holders j))
