use Rattle.std.proofs.Common.{◌≡◌, ℕ, ◌&&◌, ltb}
use Rattle.lines.specs.Sets.{has}
use Rattle.augmenting.specs.Holders.{holder}
use Rattle.augmenting.proofs.pairing.Pairing.held.Given as goal

abbrev pub invariant-loop-down : goal.invariant-loop-down
invariant-loop-down l = (j : ℕ) → has l.held j ≡ (ltb j l.down && ltb (holder l.self.holders j) 16)
