use Rattle.std.proofs.Common.{◌≡◌}
use Rattle.augmenting.specs.Holders.{Closed, untried}
use Rattle.augmenting.proofs.search.+seat.Given as goal

abbrev pub decreases-seat : goal.decreases-seat
decreases-seat l = untried l.tried.now

abbrev pub invariant-loop-down : goal.invariant-loop-down
invariant-loop-down l = Closed l.rows l.initial.holders l.initial.tried l.tried × (l.holders ≡ l.initial.holders)

abbrev pub decreases-loop-down : goal.decreases-loop-down
decreases-loop-down l = untried l.tried
