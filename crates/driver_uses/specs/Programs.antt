-- What the programs do. Assumes nothing.
use Rattle.std.specs.Prelude.{◌≡◌, ℕ, Some, None, Ok, Option, Result}
use Rattle.lines.specs.Verdicts.{or_same}
use Rattle.switch.specs.declared.SwitchDecline.{SwitchDecline}
use Rattle.switch.specs.Meaning.{Meaning}
use Rattle.switch.specs.Calls.{open_decline, opens, RunTo}
use Rattle.driver.specs.declared.DriverDecline.{DriverDecline}
use Rattle.driver.specs.declared.OpenMode.{OpenMode}
use Rattle.driver.specs.Answers.{open_answer}

-- a mode was run, and then another one was tried
pub record Renewed (d : ℕ) (m m' : Meaning) (r : Result OpenMode DriverDecline) : Type 0 where
  pub between : Meaning
  pub ran : RunTo m between
  pub after : m' ≡ or_same (open_decline d between) (opens d between) between
  pub answer : r ≡ open_answer d between

-- a declined run leaves the mode as it is
abbrev pub Renews : Option SwitchDecline → OpenMode → ℕ → Meaning → Meaning → Result OpenMode DriverDecline → Type 0
Renews (Some e) t d m m' r = (m' ≡ m) × (r ≡ Ok t)
Renews None t d m m' r = Renewed d m m' r
