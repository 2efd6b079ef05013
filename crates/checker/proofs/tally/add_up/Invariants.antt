use Rattle.std.proofs.Common.{◌≡◌, ◌*◌, ◌≤◌, length, drop}
use Rattle.lines.specs.Matrix.{cells}
use Rattle.records.specs.Files.{count}
use Rattle.records.specs.Reader.{parts, left}
use Rattle.checker.specs.Check.{Tallied}
use Rattle.checker.proofs.tally.add_up.Given as goal

-- the records so far are tallied, and the others are still to come
abbrev pub invariant-loop-record : goal.invariant-loop-record
invariant-loop-record l =
    (left l.record-iterator ≡ drop (length l.yielded) (parts l.file))
    × (length l.yielded ≤ count l.file)
    × Tallied l.lines.count l.file (length l.yielded) l.length (cells l.totals)
    × (l.length ≤ 65535 * length l.yielded)
    × (length l.totals ≡ 16)
