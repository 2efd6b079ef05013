use Rattle.std.proofs.Common.{◌≡◌}
use Rattle.owed.specs.Calls.{lines_of, units_of}
use Rattle.booking.proofs.Struck.{Struck}
use Rattle.booking.proofs.settle.Given as goal

abbrev pub invariant-loop-i : goal.invariant-loop-i
invariant-loop-i l = (lines_of l.owed ≡ lines_of l.initial.owed) × Struck (units_of l.initial.owed) (units_of l.owed) l.outcomes l.i
