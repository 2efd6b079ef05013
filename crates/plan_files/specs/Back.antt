-- Modes that are written and read back. Assumes nothing.
use Rattle.std.specs.Prelude.{◌≡◌, ℕ, ◌<◌, List, length, Some, None, vec_items, Result, MatchResult}
use Rattle.schedule.specs.declared.Mode.{Mode}
use Rattle.schedule.specs.Modes.{AllSound}
use Rattle.plan_files.specs.declared.decline.ReadDecline.{ReadDecline}
use Rattle.plan_files.specs.declared.decline.ReadDecline.TheVariants.{Size, Improper, NoMemory}
use Rattle.plan_files.specs.declared.decline.FileDecline.{FileDecline}
use Rattle.plan_files.specs.declared.decline.FileDecline.TheVariants.{Write, Read}
use Rattle.plan_files.specs.declared.read.PlanFile.{PlanFile}
use Rattle.plan_files.specs.Declines.{write_decline}
use Rattle.plan_files.specs.Reading.{Lines, Tells, Untold}
use Rattle.plan_files.specs.Encoding.{encoded}

-- the modes fit a buffer of so many bytes, and p is what their records say
pub record Done (n : ℕ) (ms : List Mode) (room : ℕ) (p : PlanFile) : Type 0 where
  pub fits : write_decline (length ms) room ≡ None
  pub told : Tells (encoded n ms) p

-- they were not written, or not read
abbrev pub Undone : ℕ → List Mode → ℕ → FileDecline → Type 0
Undone n ms room (Write d) = write_decline (length ms) room ≡ Some d
Undone n ms room (Read d) = (write_decline (length ms) room ≡ None) × Untold (encoded n ms) d

-- the same modes, and the same number of lines
pub record Again (n : ℕ) (ms : List Mode) (p : PlanFile) : Type 0 where
  pub modes : vec_items p.modes ≡ ms
  pub lines : 0 < length ms → p.lines ≡ n

-- of the reasons not to read what was written only want of memory is left
abbrev pub Unread : ReadDecline → Type 0
Unread Size = ⊥
Unread (Improper k) = ⊥
Unread NoMemory = Unit {0}

-- so only a short buffer and want of memory stand against writing and reading
abbrev pub NotBack : FileDecline → Type 0
NotBack (Write d) = Unit {0}
NotBack (Read d) = Unread d

-- modes that keep the rules, written and read, come back as they were
abbrev pub RoundTrip : ℕ → List Mode → Result PlanFile FileDecline → Type 0
RoundTrip n ms r = Lines n → AllSound n ms → MatchResult r (Again n ms) NotBack
