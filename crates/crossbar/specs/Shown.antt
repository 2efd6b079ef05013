-- What a crossbar means as a switch. Assumes nothing.
use Rattle.lines.specs.Matrix.{cells}
use Rattle.switch.specs.Meaning.{Meaning}
use Rattle.crossbar.specs.declared.fabric.Fabric.{Fabric}

abbrev pub shown : Fabric → Meaning
shown s = record { lines = s.lines.count; room = s.room; clock = s.clock; carried = cells s.carried; mode = s.mode; last = s.last }
