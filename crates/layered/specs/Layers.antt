-- Layers of uplinks and downlinks, and a round of searches between them. Assumes nothing.
use Rattle.std.specs.Prelude.{◌≡◌, ℕ, ◌<◌, ◌≤◌, true, false, not, ◌&&◌, ◌⊎◌, List, slice_index}
use Rattle.lines.specs.Sets.{has, In, size}
use Rattle.lines.specs.declared.Downlink.{Downlink}
use Rattle.matching.specs.Supports.{in_rows}
use Rattle.matching.specs.Answers.{Right}
use Rattle.matching.specs.declared.EngineAnswer.TheVariants.{Matching}
use Rattle.augmenting.specs.Holders.{Holders, holder, Busy, Idle, Mated}

-- a round begins at uplinks that hold nothing
abbrev pub Roots : Holders → ℕ → Type 0
Roots hs roots = (u : ℕ) → In roots u → (u < 16) × Idle hs u

-- how many uplinks are in the set
unfoldable pub members : ℕ → ℕ
members set = size 16 set

-- from a layer of uplinks, the steps to what is not seen yet in their rows; next are all the downlinks there
pub record Stepped (rows : List ℕ) (layer seen : ℕ) (steps steps1 : List ℕ) (next : ℕ) : Type 0 where
  pub same : (u : ℕ) → u < 16 → has layer u ≡ false → slice_index steps1 u ≡ slice_index steps u
  pub row : (u : ℕ) → u < 16 → In layer u → (k : ℕ) → in_rows steps1 u k ≡ (in_rows rows u k && not (has seen k))
  pub into : (u : ℕ) → u < 16 → In layer u → (k : ℕ) → in_rows steps1 u k ≡ true → In next k
  pub from : (k : ℕ) → In next k → (u : ℕ) × (u < 16) × In layer u × (in_rows steps1 u k ≡ true)

-- t has every downlink that steps lead to: from the roots, and from the holders of downlinks of t
pub record Followed (steps : List ℕ) (hs : Holders) (roots t : ℕ) : Type 0 where
  pub first : (u : ℕ) → In roots u → (k : ℕ) → in_rows steps u k ≡ true → In t k
  pub later : (j : ℕ) → j < 16 → In t j → holder hs j < 16 → (k : ℕ) → in_rows steps (holder hs j) k ≡ true → In t k

-- the steps lead to a free downlink
abbrev pub Leads : List ℕ → Holders → ℕ → Type 0
Leads steps hs roots = (t : ℕ) → Followed steps hs roots t → (j : ℕ) × (j < 16) × (16 ≤ holder hs j) × In t j

-- the steps are in the rows, and lead to a free downlink
pub record Leading (rows : List ℕ) (hs : Holders) (roots : ℕ) (steps : List ℕ) : Type 0 where
  pub part : (i j : ℕ) → i < 16 → in_rows steps i j ≡ true → in_rows rows i j ≡ true
  pub leads : Leads steps hs roots

-- searches from roots in turn, each along steps: hs became hs1
pub record Moved (steps : List ℕ) (hs hs1 : Holders) : Type 0 where
  pub edges : (j : ℕ) → j < 16 → (holder hs1 j ≡ holder hs j) ⊎ ((holder hs1 j < 16) × (in_rows steps (holder hs1 j) j ≡ true))
  pub keeps : (u : ℕ) → u < 16 → Busy hs u → Busy hs1 u

-- a whole round: nobody lost a downlink, a root at least got one, and only roots did
pub record Round (steps : List ℕ) (hs hs1 : Holders) (roots : ℕ) : Type 0 where
  pub moved : Moved steps hs hs1
  pub only : (u : ℕ) → u < 16 → Busy hs1 u → (In roots u) ⊎ (Busy hs u)
  pub gain : (u : ℕ) × (u < 16) × In roots u × Busy hs1 u

-- those of the uplinks that hold nothing
pub record Left (hs : Holders) (ups rest : ℕ) : Type 0 where
  pub idle : (u : ℕ) → In rest u → (In ups u) × Idle hs u
  pub busy : (u : ℕ) → In ups u → has rest u ≡ false → Busy hs u

-- a round along steps in the rows, and the uplinks that still hold nothing
pub record Gained (rows : List ℕ) (hs hs1 : Holders) (idle rest : ℕ) : Type 0 where
  pub steps : List ℕ
  pub part : (i j : ℕ) → i < 16 → in_rows steps i j ≡ true → in_rows rows i j ≡ true
  pub round : Round steps hs hs1 idle
  pub left : Left hs1 idle rest

-- No free downlink is reached: each downlink of a reached uplink is held by a reached one.
pub record Ended (rows : List ℕ) (hs : Holders) (idle reached : ℕ) : Type 0 where
  pub start : (u : ℕ) → In idle u → In reached u
  pub from : (u : ℕ) → In reached u → (In idle u) ⊎ ((u < 16) × Busy hs u)
  pub closed : (u j : ℕ) → u < 16 → j < 16 → In reached u → in_rows rows u j ≡ true → (holder hs j < 16) × In reached (holder hs j)

-- what each uplink holds is a matching
abbrev pub Whole : ℕ → List ℕ → Holders → Type 0
Whole n rows hs = (mates : List Downlink) → Mated hs mates → Right n rows (Matching mates)
