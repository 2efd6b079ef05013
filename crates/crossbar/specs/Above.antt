-- Which line is above those that a switch has. Assumes nothing.
use Rattle.std.specs.Prelude.{ℕ, cond, Some, None, Option, nat_le}
use Rattle.lines.specs.declared.Line.{Line}
use Rattle.lines.specs.declared.Line.TheVariants.{Up, Down}
use Rattle.switch.specs.declared.SwitchDecline.{SwitchDecline}
use Rattle.switch.specs.declared.SwitchDecline.TheVariants.{LineAbove}

abbrev pub number_of : Line → ℕ
number_of (Up i) = i.0
number_of (Down j) = j.0

-- the decline of a line that is not one of n
abbrev pub above : ℕ → Line → Option SwitchDecline
above n l = cond (nat_le n (number_of l)) (Some (LineAbove l)) None
