-- What the grants of a run carry, by a rule of the switch. Assumes nothing.
use Rattle.std.specs.Prelude.{◌≡◌, ℕ, suc, true, List, [], ◌∷◌, length, Some, None, Option, slice_index_or}
use Rattle.lines.specs.Verdicts.{or_same}
use Rattle.schedule.specs.declared.Join.{Join}
use Rattle.switch.specs.declared.Outcome.{Outcome}
use Rattle.switch.specs.Meaning.{Meaning, is_open, dwell_of, row_of}
use Rattle.switch.specs.Calls.{CarriesAt, mode_decline, runs}

-- the units that a grant carries, by the clock and the room at the start of the run, the grant's uplink, its downlink and its units
abbrev pub Carry : Type 0
Carry = ℕ → ℕ → ℕ → ℕ → ℕ → ℕ

-- the outcome of uplink i's entry, where a grant (i, j, u) carries f i j u
abbrev pub outcome_by : (ℕ → ℕ → ℕ → ℕ) → ℕ → Option Join → Option Outcome
outcome_by f i None = None
outcome_by f i (Some x) = Some (record { join = x; carried = f i x.down.0 x.units })

-- the outcomes of the entries of the uplinks from i on
abbrev pub outcomes_from : (ℕ → ℕ → ℕ → ℕ) → ℕ → List (Option Join) → List (Option Outcome)
outcomes_from f i [] = []
outcomes_from f i (x ∷ row) = outcome_by f i x ∷ outcomes_from f (suc i) row

abbrev pub outcomes_by : (ℕ → ℕ → ℕ → ℕ) → List (Option Join) → List (Option Outcome)
outcomes_by f row = outcomes_from f 0 row

-- what a run leaves whose grants carry by f; without an open mode it changes nothing
abbrev pub runs_by : Carry → Meaning → Meaning
runs_by f m = or_same (mode_decline m) (runs (outcomes_by (f m.clock m.room) (row_of m.mode)) m) m

-- a mode of dwell d is open, and these are outcomes of its grants
pub record Closes (m : Meaning) (d : ℕ) (os : List (Option Outcome)) : Type 0 where
  pub stands : is_open m.mode ≡ true
  pub lasts : d ≡ dwell_of m.mode
  pub sixteen : length os ≡ 16
  pub carry : (i : ℕ) → CarriesAt (slice_index_or (row_of m.mode) i None) (slice_index_or os i None)
