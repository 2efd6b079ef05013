-- How much a line may be owed, and how many lines there may be. Assumes nothing.
use Rattle.std.specs.Prelude.{ℕ}

abbrev pub limit : ℕ
limit = 65535

abbrev pub most_lines : ℕ
most_lines = 16
