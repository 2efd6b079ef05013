use Rattle.std.proofs.Common.{◌≡◌, ◌≤◌, length, drop}
use Rattle.owed.specs.Calls.{lines_of, units_of}
use Rattle.records.specs.Reservations.{how_many, numbered, left}
use Rattle.law.proofs.Batches.{Batched}
use Rattle.booking.proofs.post_all.Given as goal

-- the reservations so far are posted, and the others are still to come
abbrev pub invariant-loop-number : goal.invariant-loop-number
invariant-loop-number l =
    (left l.number-iterator ≡ drop (length l.yielded) (numbered l.bytes))
    × (length l.yielded ≤ how_many l.bytes)
    × (lines_of l.next ≡ lines_of l.initial.next)
    × Batched (lines_of l.initial.next) l.bytes (units_of l.initial.next) (units_of l.next) (length l.yielded)
