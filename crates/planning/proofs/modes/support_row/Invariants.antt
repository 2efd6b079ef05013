use Rattle.std.proofs.Common.{◌≡◌, ltb, get_or}
use Rattle.planning.specs.Supports.{in_bits}
use Rattle.planning.proofs.modes.support_row.Given as goal

abbrev pub invariant-loop-j : goal.invariant-loop-j
invariant-loop-j l = l.bits ≡ in_bits l.j (λ j. ltb 0 (get_or l.row j 0))
