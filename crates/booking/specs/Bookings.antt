-- Reservations posted into an owed matrix, and what is told of units that fell short. Assumes nothing.
use Rattle.std.specs.Prelude.{◌≡◌, ℕ, ◌+◌, Bool, List, None, Option, nat_lt}
use Rattle.owed.specs.declared.matrix.Owed.{Owed}
use Rattle.owed.specs.Calls.{lines_of, units_of}
use Rattle.records.specs.Reservations.{reservations}
use Rattle.law.specs.declared.decline.SessionDecline.{SessionDecline}
use Rattle.switch.specs.declared.Outcome.{Outcome}
use Rattle.law.specs.Runs.{missing}
use Rattle.law.specs.Refusals.{records_decline}
use Rattle.law.specs.Calls.{reserved}

-- what stands against posting all whole reservations in the bytes
abbrev pub posts_decline : Owed → List ℕ → Option SessionDecline
posts_decline o bytes = records_decline (lines_of o) 0 (reservations bytes) (units_of o)

-- all of them are posted
pub record Posted (o : Owed) (bytes : List ℕ) (after : Owed) : Type 0 where
  pub free : posts_decline o bytes ≡ None
  pub lines : lines_of after ≡ lines_of o
  pub units : (a b : ℕ) → units_of after a b ≡ units_of o a b + reserved (reservations bytes) a b

-- whether units were granted and not carried
abbrev pub falls_short : Option Outcome → Bool
falls_short o = nat_lt 0 (missing o)
