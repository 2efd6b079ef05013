-- What holds of every plan: it serves what is owed, and none is shorter. Assumes nothing.
use Rattle.std.specs.Prelude.{◌≡◌, ℕ, ◌+◌, ◌*◌, ◌<◌, ◌≤◌, Bool, List, length}
use Rattle.lines.specs.Matrix.{Matrix, busiest, Even}
use Rattle.matching.specs.Supports.{Witness}
use Rattle.schedule.specs.declared.Mode.{Mode}
use Rattle.schedule.specs.Modes.{Serves, span}
use Rattle.schedule.specs.OpenShop.{Shop, OpenShop, unfolded}
use Rattle.padding.specs.Padding.{Padded}
use Rattle.planning.specs.Supports.{support, positives}

pub record Best (n : ℕ) (owed : Matrix) (ms : List Mode) : Type 0 where
  -- it serves exactly the units owed
  pub serves : Serves n ms owed
  -- it unfolds into an open-shop schedule for them
  pub shop : OpenShop n (span ms) (unfolded n ms) owed
  -- it is as long as the busiest line
  pub tight : span ms ≡ busiest n owed
  -- no schedule that serves them is shorter, neither one of modes nor one of the open shop, even one that breaks off within a slot, its time counted in q parts of a slot
  pub shortest : (other : List Mode) → Serves n other owed → span ms ≤ span other
  pub shortest_shop : (t : ℕ) (shop : Shop) → OpenShop n t shop owed → span ms ≤ t
  pub shortest_parts : (q t : ℕ) (shop : Shop) → OpenShop n t shop (λ i j. owed i j * q) → span ms * q ≤ t
  -- with P padded crosspoints above zero it has at most P - n + 1 modes
  pub few : (p : Matrix) → Padded n owed p → length ms + n ≤ positives n p + 1
  pub at_most : length ms ≤ 241

-- where all lines have one sum above zero, no set of uplinks is a witness against a matching
abbrev pub NoWitness : Type 0
NoWitness = (n b : ℕ) (p : Matrix) → 0 < b → Even n b p → (set : ℕ → Bool) → Witness n (support p) set → ⊥
