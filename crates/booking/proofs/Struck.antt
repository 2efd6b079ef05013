-- What was carried leaves the owed units, uplink by uplink. Assumes nothing.
use Rattle.std.proofs.Common.{◌≡◌, ℕ, ◌-◌, ◌<◌, ◌≤◌, List, Option}
use Rattle.lines.specs.Matrix.{Matrix}
use Rattle.switch.specs.declared.Outcome.{Outcome}
use Rattle.law.specs.Runs.{carried_by}

-- what the first i uplinks carried has left the owed units
pub record Struck (first next : Matrix) (os : List (Option Outcome)) (i : ℕ) : Type 0 where
  pub past : (a b : ℕ) → a < i → next a b ≡ first a b - carried_by os a b
  pub rest : (a b : ℕ) → i ≤ a → next a b ≡ first a b
