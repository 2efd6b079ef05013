use Rattle.std.proofs.Common.{◌≡◌, ◌≤◌, length, drop, vec_items}
use Rattle.records.specs.Files.{count, modes_below}
use Rattle.records.specs.Reader.{parts, left}
use Rattle.plan_files.specs.Reading.{AllFit}
use Rattle.plan_files.proofs.read.read_all.Given as goal

-- the records so far fit, and the others are still to come
abbrev pub invariant-loop-record : goal.invariant-loop-record
invariant-loop-record l =
    (left l.record-iterator ≡ drop (length l.yielded) (parts l.file))
    × (length l.yielded ≤ count l.file)
    × AllFit l.lines (length l.yielded) l.file
    × (vec_items l.modes ≡ modes_below (length l.yielded) l.file)
