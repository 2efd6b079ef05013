-- Matchings of a support, and Hall's witnesses against one. Assumes nothing.
use Rattle.std.specs.Prelude.{◌≡◌, ℕ, ◌<◌, ◌≤◌, Bool, true, false, ◌&&◌, List, slice_index}
use Rattle.lines.specs.Sums.{count_below, any_below}
use Rattle.lines.specs.Sets.{has}

-- which crosspoints are in it
abbrev pub Support : Type 0
Support = ℕ → ℕ → Bool

-- a support in rows of bits: bit j of row i says that (i, j) is in it
abbrev pub in_rows : List ℕ → Support
in_rows rows i j = has (slice_index rows i) j

-- each uplink has a downlink of its row, all different
pub record Matching (n : ℕ) (s : Support) (mate : ℕ → ℕ) : Type 0 where
  pub inside : (i : ℕ) → i < n → mate i < n
  pub held : (i : ℕ) → i < n → s i (mate i) ≡ true
  pub apart : (i h : ℕ) → i < n → h < n → mate i ≡ mate h → i ≡ h

-- the downlinks that the rows of the set's uplinks hold together
abbrev pub reached : ℕ → Support → (ℕ → Bool) → ℕ → Bool
reached n s set j = any_below n (λ i. set i && s i j)

-- a non-empty set of uplinks whose rows together hold fewer downlinks than it has uplinks
pub record Witness (n : ℕ) (s : Support) (set : ℕ → Bool) : Type 0 where
  pub lines : (i : ℕ) → n ≤ i → set i ≡ false
  pub some : 0 < count_below n set
  pub few : count_below n (reached n s set) < count_below n set

abbrev pub Matchable : ℕ → Support → Type 0
Matchable n s = (mate : ℕ → ℕ) × Matching n s mate

abbrev pub Blocked : ℕ → Support → Type 0
Blocked n s = (set : ℕ → Bool) × Witness n s set

-- exactly one of the two exists, and b tells whether it is a matching
pub record Settled (n : ℕ) (s : Support) (b : Bool) : Type 0 where
  pub matchable : b ≡ true → Matchable n s × (Blocked n s → ⊥)
  pub blocked : b ≡ false → Blocked n s × (Matchable n s → ⊥)
