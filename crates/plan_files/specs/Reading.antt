-- What a plan file says. Assumes nothing.
use Rattle.std.specs.Prelude.{◌≡◌, ℕ, ◌<◌, ◌≤◌, List, length, vec_items}
use Rattle.schedule.specs.declared.Mode.{Mode}
use Rattle.records.specs.Layout.{lines_in, Proper}
use Rattle.records.specs.Reader.{part}
use Rattle.records.specs.Files.{count, Whole, AllProper, modes_in}
use Rattle.plan_files.specs.declared.decline.ReadDecline.{ReadDecline}
use Rattle.plan_files.specs.declared.decline.ReadDecline.TheVariants.{Size, Improper, NoMemory}
use Rattle.plan_files.specs.declared.read.PlanFile.{PlanFile}

-- a number of lines
abbrev pub Lines : ℕ → Type 0
Lines n = (1 ≤ n) × (n ≤ 16)

-- the number of lines that a file's first record says, and 0 where it has none
abbrev pub lines_said : List ℕ → ℕ
lines_said file = lines_in (part file 0)

-- the record of a mode of n lines, from 1 to 16
abbrev pub Fits : ℕ → List ℕ → Type 0
Fits n r = Lines n × Proper n r

-- the first k records are such
abbrev pub AllFit : ℕ → ℕ → List ℕ → Type 0
AllFit n k file = (h : ℕ) → h < k → Fits n (part file h)

-- record k is the first that is none
pub record FirstUnfit (n : ℕ) (file : List ℕ) (k : ℕ) : Type 0 where
  pub there : k < count file
  pub unfit : Fits n (part file k) → ⊥
  pub before : AllFit n k file

-- the file says the number of lines and the modes of p
pub record Tells (file : List ℕ) (p : PlanFile) : Type 0 where
  pub whole : Whole file
  pub fits : AllFit (lines_said file) (count file) file
  pub lines : p.lines ≡ lines_said file
  pub modes : vec_items p.modes ≡ modes_in file

-- why it says nothing; memory may be wanting for any file of whole records
abbrev pub Untold : List ℕ → ReadDecline → Type 0
Untold file Size = Whole file → ⊥
Untold file (Improper k) = Whole file × FirstUnfit (lines_said file) file k
Untold file NoMemory = Whole file

-- the file says these modes, of n lines
pub record Says (n : ℕ) (ms : List Mode) (file : List ℕ) : Type 0 where
  pub whole : Whole file
  pub lines : 0 < length ms → lines_said file ≡ n
  pub proper : AllProper n (count file) file
  pub modes : modes_in file ≡ ms
