-- Which uplink holds which downlink, and what a search for an augmenting path does. Assumes nothing.
use Rattle.std.specs.Prelude.{◌≡◌, ℕ, ◌<◌, ◌≤◌, Bool, true, false, not, ◌&&◌, ◌⊎◌, List, Option, Some, None, ◌≢◌, nat_lt, slice_index_or}
use Rattle.lines.specs.Sums.{count_below}
use Rattle.lines.specs.Sets.{has, In}
use Rattle.lines.specs.Matrix.{downlink}
use Rattle.lines.specs.declared.Uplink.{Uplink}
use Rattle.lines.specs.declared.Downlink.{Downlink}
use Rattle.matching.specs.Supports.{in_rows}
use Rattle.matching.specs.Answers.{unused}

-- the rows cut to n lines: nothing from n up, and all the rest
abbrev pub Within : ℕ → List ℕ → List ℕ → Type 0
Within n rows cut = (i j : ℕ) → i < 16 → in_rows cut i j ≡ (in_rows rows i j && (nat_lt i n && nat_lt j n))

-- of each downlink the uplink that holds it
abbrev pub Holders : Type 0
Holders = List (Option Uplink)

-- the number of the uplink, or 16, which no uplink has, where there is none
abbrev pub number_or_16 : Option Uplink → ℕ
number_or_16 None = 16
number_or_16 (Some up) = up.0

-- the number of the uplink that holds downlink j, or 16 where none does
abbrev pub holder : Holders → ℕ → ℕ
holder hs j = number_or_16 (slice_index_or hs j None)

-- each holder is one of the sixteen uplinks
abbrev pub Known : Holders → Type 0
Known hs = (j : ℕ) (up : Uplink) → slice_index_or hs j None ≡ Some up → up.0 < 16

-- no uplink holds two downlinks
abbrev pub Apart : Holders → Type 0
Apart hs = (j k : ℕ) → (j < 16) × (k < 16) × (holder hs j < 16) × (holder hs j ≡ holder hs k) → j ≡ k

-- each downlink that is held is in the row of its holder
abbrev pub Edges : List ℕ → Holders → Type 0
Edges rows hs = (j : ℕ) → j < 16 → holder hs j < 16 → in_rows rows (holder hs j) j ≡ true

-- the uplink holds a downlink
abbrev pub Busy : Holders → ℕ → Type 0
Busy hs up = (j : ℕ) × (j < 16) × (holder hs j ≡ up)

-- the uplink holds no downlink
abbrev pub Idle : Holders → ℕ → Type 0
Idle hs up = (j : ℕ) → j < 16 → holder hs j ≢ up

-- the set has just the uplinks that hold a downlink
abbrev pub Told : Holders → ℕ → Type 0
Told hs set = (u : ℕ) → u < 16 → (In set u → Idle hs u → ⊥) × (has set u ≡ false → Idle hs u)

-- the downlinks by uplink: of each uplink what it holds, or none
pub record Mated (hs : Holders) (mates : List Downlink) : Type 0 where
  pub holding : (j : ℕ) → j < 16 → holder hs j < 16 → slice_index_or mates (holder hs j) unused ≡ downlink j
  pub idle : (u : ℕ) → u < 16 → Idle hs u → slice_index_or mates u unused ≡ unused

-- what the uplink holds has been tried
abbrev pub Tried : Holders → ℕ → ℕ → Type 0
Tried hs up t = (j : ℕ) → j < 16 → holder hs j ≡ up → In t j

-- how many downlinks are still to be tried
unfoldable pub untried : ℕ → ℕ
untried t = count_below 16 (λ j. not (has t j))

-- d is the lowest downlink of the row that t lacks, and t1 is t with d
pub record Picked (row t t1 d : ℕ) : Type 0 where
  pub below : d < 16
  pub edge : In row d
  pub new : has t d ≡ false
  pub first : (k : ℕ) → k < d → In row k → In t k
  pub now : In t1 d
  pub others : (k : ℕ) → (d ≢ k) → has t1 k ≡ has t k

-- the downlinks t were t0 before, and each new one is held by an uplink whose whole row has been tried
pub record Closed (rows : List ℕ) (hs : Holders) (t0 t : ℕ) : Type 0 where
  pub grows : (j : ℕ) → In t0 j → In t j
  pub held : (j : ℕ) → j < 16 → In t j → has t0 j ≡ false → (holder hs j < 16) × ((k : ℕ) → in_rows rows (holder hs j) k ≡ true → In t k)

-- the whole row of the uplink has been tried in vain
abbrev pub Searched : List ℕ → Holders → ℕ → ℕ → ℕ → Type 0
Searched rows hs up t0 t = Closed rows hs t0 t × ((k : ℕ) → in_rows rows up k ≡ true → In t k)

-- The uplink got a downlink that had not been tried, hs became hs1, and t have been tried. It keeps what it held until that is given away.
pub record Seated (rows : List ℕ) (hs hs1 : Holders) (up t0 t : ℕ) : Type 0 where
  pub grows : (j : ℕ) → In t0 j → In t j
  pub kept : (j : ℕ) → j < 16 → In t0 j → holder hs1 j ≡ holder hs j
  pub used : (j : ℕ) → j < 16 → has t j ≡ false → holder hs1 j ≡ holder hs j
  pub steps : (j : ℕ) → j < 16 → (holder hs1 j ≡ holder hs j) ⊎ ((holder hs1 j < 16) × (in_rows rows (holder hs1 j) j ≡ true))
  pub apart : (j k : ℕ) → j < 16 → k < 16 → holder hs1 j < 16 → holder hs1 j ≡ holder hs1 k → (holder hs1 j ≡ up → (has t0 j ≡ false) × (has t0 k ≡ false)) → j ≡ k
  pub gets : (j : ℕ) × (j < 16) × (has t0 j ≡ false) × (holder hs1 j ≡ up)
  pub only : (j : ℕ) → j < 16 → has t0 j ≡ false → holder hs1 j < 16 → (holder hs1 j ≡ up) ⊎ ((k : ℕ) × (k < 16) × (has t0 k ≡ false) × (holder hs k ≡ holder hs1 j))
  pub stays : (j : ℕ) → j < 16 → holder hs j < 16 → (k : ℕ) × (k < 16) × (holder hs1 k ≡ holder hs j)

-- what a search from an uplink without a downlink does; r tells whether it holds one then
pub record Augmented (rows : List ℕ) (hs hs1 : Holders) (up t0 t1 : ℕ) (r : Bool) : Type 0 where
  pub beyond : 16 ≤ up → (r ≡ false) × (hs1 ≡ hs) × (t1 ≡ t0)
  pub holds : up < 16 → (j : ℕ) → j < 16 → holder hs j ≡ up → (r ≡ true) × (hs1 ≡ hs) × (t1 ≡ t0)
  pub found : up < 16 → Idle hs up → r ≡ true → Seated rows hs hs1 up t0 t1
  pub failed : up < 16 → Idle hs up → r ≡ false → Searched rows hs up t0 t1 × (hs1 ≡ hs)
