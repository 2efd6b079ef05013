-- What a crossbar means when it is made. Assumes nothing.
use Rattle.std.specs.Prelude.{ℕ, Bool, cond, ◌||◌, None, ◌==◌, nat_lt}
use Rattle.lines.specs.Matrix.{nothing}
use Rattle.switch.specs.Meaning.{Meaning, most_lines}

-- a number of lines that no switch has
abbrev pub bad_lines : ℕ → Bool
bad_lines n = n == 0 || nat_lt most_lines n

-- a switch that has neither run nor opened a mode
abbrev pub fresh : ℕ → ℕ → Meaning
fresh n r = record { lines = n; room = r; clock = 0; carried = nothing; mode = None; last = None }

-- a switch of one line without room, where the making's input is bad
abbrev pub made : Bool → ℕ → ℕ → Meaning
made bad n r = cond bad (fresh 1 0) (fresh n r)
