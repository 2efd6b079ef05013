-- A line that is being read. Assumes nothing.
use Rattle.std.specs.Prelude.{◌≡◌, ℕ, List, take}
use Rattle.line_input.specs.Kept.{most}
use Rattle.line_input.specs.declared.buffer.LineBuffer.{LineBuffer}

-- line has come: its first bytes are kept
abbrev pub Holds : LineBuffer → List ℕ → Type 0
Holds b line = take b.len b.bytes ≡ take most line
