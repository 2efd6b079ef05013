-- What the owed matrix holds, and which decline each call meets. Assumes nothing.
use Rattle.std.specs.Prelude.{ℕ, ◌+◌, ◌-◌, ◌<◌, ◌≤◌, cond, ◌||◌, Some, None, Option, ◌==◌, nat_le, nat_lt}
use Rattle.lines.specs.declared.Uplink.{Uplink}
use Rattle.lines.specs.declared.Downlink.{Downlink}
use Rattle.lines.specs.declared.Line.{Line}
use Rattle.lines.specs.declared.Line.TheVariants.{Up, Down}
use Rattle.lines.specs.declared.Crosspoint.{Crosspoint}
use Rattle.lines.specs.declared.Place.{Place}
use Rattle.lines.specs.declared.Place.TheVariants.{Nowhere, OnLine, AtCrosspoint}
use Rattle.lines.specs.Matrix.{Matrix, cells, uplink_sum, downlink_sum, load, plus, only}
use Rattle.lines.specs.Verdicts.{or_else}
use Rattle.owed.specs.Limits.{limit, most_lines}
use Rattle.owed.specs.declared.matrix.Owed.{Owed}
use Rattle.owed.specs.declared.decline.OwedDecline.{OwedDecline}
use Rattle.owed.specs.declared.decline.OwedDecline.TheVariants.{Lines, LineAbove, NoUnits, LineFull, TooMuch}

abbrev pub lines_of : Owed → ℕ
lines_of o = o.lines.count

-- the units owed at each crosspoint
abbrev pub units_of : Owed → Matrix
units_of o = cells o.rows

-- the number and the place of each decline
abbrev pub number : OwedDecline → ℕ
number Lines = 1
number (LineAbove l) = 4
number NoUnits = 5
number (LineFull l) = 7
number (TooMuch x) = 8

abbrev pub place : OwedDecline → Place
place Lines = Nowhere
place (LineAbove l) = OnLine l
place NoUnits = Nowhere
place (LineFull l) = OnLine l
place (TooMuch x) = AtCrosspoint x

abbrev pub make_decline : ℕ → Option OwedDecline
make_decline n = cond (n == 0 || nat_lt most_lines n) (Some Lines) None

abbrev pub at : Uplink → Downlink → Crosspoint
at i j = record { up = i; down = j }

abbrev pub line_decline : ℕ → Uplink → Downlink → Option OwedDecline
line_decline n i j = cond (nat_le n i.0) (Some (LineAbove (Up i))) (cond (nat_le n j.0) (Some (LineAbove (Down j))) None)

-- a line has no room for u more units
abbrev pub room_decline : ℕ → Matrix → Line → ℕ → Option OwedDecline
room_decline n m l u = cond (nat_lt limit (load n l m + u)) (Some (LineFull l)) None

-- what stands against u more units at a crosspoint
abbrev pub add_decline : ℕ → Matrix → Uplink → Downlink → ℕ → Option OwedDecline
add_decline n m i j u =
    or_else (line_decline n i j)
    (cond (u == 0) (Some NoUnits)
    (cond (nat_lt limit (load n (Up i) m + u)) (Some (LineFull (Up i)))
    (cond (nat_lt limit (load n (Down j) m + u)) (Some (LineFull (Down j))) None)))

-- what stands against u units fewer at a crosspoint
abbrev pub take_decline : ℕ → Matrix → Uplink → Downlink → ℕ → Option OwedDecline
take_decline n m i j u =
    or_else (line_decline n i j)
    (cond (u == 0) (Some NoUnits)
    (cond (nat_lt (m i.0 j.0) u) (Some (TooMuch (at i j))) None))

-- u more, or u fewer, at (i, j)
abbrev pub added : Matrix → ℕ → ℕ → ℕ → Matrix
added m i j u = plus m (only i j u)

abbrev pub taken : Matrix → ℕ → ℕ → ℕ → Matrix
taken m i j u a b = m a b - only i j u a b

-- the number of a line is n or more
abbrev pub sum_decline : ℕ → Line → Option OwedDecline
sum_decline n (Up i) = cond (nat_le n i.0) (Some (LineAbove (Up i))) None
sum_decline n (Down j) = cond (nat_le n j.0) (Some (LineAbove (Down j))) None

-- with v units at (i, j) in place of those there, both lines stay within the limit
pub record WithinLimits (n : ℕ) (m : Matrix) (i j v : ℕ) : Type 0 where
  pub up : i < n
  pub down : j < n
  pub up_fits : uplink_sum n m i + v ≤ limit + m i j
  pub down_fits : downlink_sum n m j + v ≤ limit + m i j
