-- What the checker of schedules answers. Assumes nothing.
use Rattle.std.specs.Prelude.{◌≡◌, ℕ, ◌<◌, ◌≤◌, List, Decides, Result, MatchResult}
use Rattle.lines.specs.declared.Crosspoint.{Crosspoint}
use Rattle.lines.specs.declared.Place.{Place}
use Rattle.lines.specs.declared.Place.TheVariants.{Nowhere, AtCrosspoint, AtRecord}
use Rattle.lines.specs.Matrix.{Matrix, busiest}
use Rattle.schedule.specs.Modes.{span, grants}
use Rattle.schedule.specs.OpenShop.{OpenShop, unfolded}
use Rattle.records.specs.Files.{count, Whole, most_records, AllProper, FirstImproper, modes_below, modes_in, Schedules}
use Rattle.checker.specs.declared.verdict.Checked.{Checked}
use Rattle.checker.specs.declared.decline.CheckDecline.{CheckDecline}
use Rattle.checker.specs.declared.decline.CheckDecline.TheVariants.{Size, Improper, Differs}

-- the number and the place of each decline
abbrev pub number : CheckDecline → ℕ
number Size = 15
number (Improper k) = 17
number (Differs x) = 18

abbrev pub place : CheckDecline → Place
place Size = Nowhere
place (Improper k) = AtRecord k
place (Differs x) = AtCrosspoint x

-- whole records, and not too many
abbrev pub Sized : List ℕ → Type 0
Sized file = Whole file × (count file ≤ most_records)

-- x is the first crosspoint, by uplink, then downlink, at which p and q differ
pub record FirstDiffers (n : ℕ) (p q : Matrix) (x : Crosspoint) : Type 0 where
  pub uplink : x.up.0 < n
  pub downlink : x.down.0 < n
  pub differs : p x.up.0 x.down.0 ≡ q x.up.0 x.down.0 → ⊥
  pub rows : (i j : ℕ) → i < x.up.0 → j < n → p i j ≡ q i j
  pub row : (j : ℕ) → j < x.down.0 → p x.up.0 j ≡ q x.up.0 j

-- the first k records are modes of n lines, of this length together, and grant p
pub record Tallied (n : ℕ) (file : List ℕ) (k long : ℕ) (p : Matrix) : Type 0 where
  pub proper : AllProper n k file
  pub lasts : long ≡ span (modes_below k file)
  pub total : (x y : ℕ) → x < n → p x y ≡ grants (modes_below k file) x y

-- the file is a schedule that serves m: its length is the sum of its dwells, and it unfolds into an open-shop schedule of that length
pub record Served (n : ℕ) (m : Matrix) (file : List ℕ) (long : ℕ) : Type 0 where
  pub schedules : Schedules n m file
  pub sum : long ≡ span (modes_in file)
  pub shop : OpenShop n long (unfolded n (modes_in file)) m

-- and it is told whether that length is the busiest line
pub record Accepted (n : ℕ) (m : Matrix) (file : List ℕ) (c : Checked) : Type 0 where
  pub served : Served n m file c.length
  pub shortest : Decides c.shortest (c.length ≡ busiest n m)

-- the file is a schedule, and crosspoint x is the first that it does not grant its units
pub record Missed (n : ℕ) (m : Matrix) (file : List ℕ) (x : Crosspoint) : Type 0 where
  pub sized : Sized file
  pub proper : AllProper n (count file) file
  pub first : FirstDiffers n (grants (modes_in file)) m x

-- what each decline says, each after those before it
abbrev pub Declined : ℕ → Matrix → List ℕ → CheckDecline → Type 0
Declined n m file Size = Sized file → ⊥
Declined n m file (Improper k) = Sized file × FirstImproper n file k
Declined n m file (Differs x) = Missed n m file x

-- the answer is right
abbrev pub Verdict : ℕ → Matrix → List ℕ → Result Checked CheckDecline → Type 0
Verdict n m file r = MatchResult r (Accepted n m file) (Declined n m file)

-- and no other answer is
abbrev pub Sole : ℕ → Matrix → List ℕ → Result Checked CheckDecline → Type 0
Sole n m file r = (x : Result Checked CheckDecline) → Verdict n m file x → r ≡ x
