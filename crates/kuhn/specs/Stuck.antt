-- The uplinks that are stuck with an uplink whose search failed. Assumes nothing.
use Rattle.std.specs.Prelude.{◌≡◌, ℕ, ◌<◌, ◌≢◌}
use Rattle.lines.specs.Sets.{In}
use Rattle.augmenting.specs.Holders.{Holders, holder}

-- the set of uplink k and the holders of the downlinks t
pub record Stuck (hs : Holders) (k t set : ℕ) : Type 0 where
  pub own : k < 16 → In set k
  pub from : (u : ℕ) → In set u → (k ≢ u) → (u < 16) × ((j : ℕ) × (j < 16) × In t j × (holder hs j ≡ u))
  pub all : (j : ℕ) → j < 16 → In t j → holder hs j < 16 → (k ≢ holder hs j) → In set (holder hs j)
