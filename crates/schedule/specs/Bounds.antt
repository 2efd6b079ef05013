-- How short a schedule can be. Assumes nothing.
use Rattle.std.specs.Prelude.{ℕ, ◌*◌, ◌≤◌, List}
use Rattle.lines.specs.Matrix.{Matrix, busiest}
use Rattle.schedule.specs.declared.Mode.{Mode}
use Rattle.schedule.specs.Modes.{Serves, span}
use Rattle.schedule.specs.OpenShop.{Shop, OpenShop, unfolded}

-- every schedule of modes that serves a matrix is at least as long as its busiest line
abbrev pub NoShorter : Type 0
NoShorter = (n : ℕ) (ms : List Mode) (m : Matrix) → Serves n ms m → busiest n m ≤ span ms

-- and so is every open-shop schedule for it
abbrev pub NoShorterShop : Type 0
NoShorterShop = (n t : ℕ) (shop : Shop) (m : Matrix) → OpenShop n t shop m → busiest n m ≤ t

-- nor is it of use to break off within a slot: where time is counted in q parts of a slot, no schedule is over before q times the busiest line
abbrev pub NoShorterParts : Type 0
NoShorterParts = (n q t : ℕ) (shop : Shop) (m : Matrix) → OpenShop n t shop (λ i j. m i j * q) → busiest n m * q ≤ t

-- a schedule of modes that serves a matrix unfolds into an open-shop schedule of its length for that matrix
abbrev pub Unfolds : Type 0
Unfolds = (n : ℕ) (ms : List Mode) (m : Matrix) → Serves n ms m → OpenShop n (span ms) (unfolded n ms) m
