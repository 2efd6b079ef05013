use Rattle.std.proofs.Common.{◌≡◌, length}
use Rattle.padding.specs.Padding.{listed}
use Rattle.padding.proofs.Rows.{Visiting}
use Rattle.padding.proofs.pad_row.Given as goal

abbrev pub invariant-loop-j : goal.invariant-loop-j
invariant-loop-j l = Visiting l.j l.lack l.left (listed l.initial.row) (listed l.row) (listed l.initial.lacks) (listed l.lacks) × (length l.row ≡ 16) × (length l.lacks ≡ 16)
