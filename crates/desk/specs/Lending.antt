-- The owed matrix of a state, lent to a request. Assumes nothing.
use Rattle.std.specs.Borrow.{Lends, MutBor, Fml}
use Rattle.owed.specs.declared.matrix.Owed.{Owed}
use Rattle.owed.specs.contracts.matrix.Owed.{the_row as owed_row}
use Rattle.desk.specs.declared.desk.State.{State}
use Rattle.desk.specs.declared.desk.State.TheVariants.{Running}
use Rattle.desk.specs.contracts.desk.State.{the_row}

-- s ends as a running state with the last matrix behind r
abbrev pub LendsOwed : MutBor State → MutBor Owed → Fml
LendsOwed s r = Lends the_row owed_row s r (λ o. Running o)
