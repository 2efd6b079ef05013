-- Modes that were run: what was carried, what fell short, and what a session tells of it. Assumes nothing.
use Rattle.std.specs.Prelude.{◌≡◌, ℕ, ◌+◌, ◌-◌, ◌<◌, cond, List, [], ◌∷◌, length, Some, None, Option, MatchOption, nat_lt, slice_index_or}
use Rattle.lines.specs.Sums.{sum_below, lowest_below}
use Rattle.lines.specs.Matrix.{Matrix, uplink}
use Rattle.schedule.specs.declared.Mode.{Mode}
use Rattle.schedule.specs.Modes.{grant_of}
use Rattle.switch.specs.declared.Outcome.{Outcome}
use Rattle.switch.specs.Meaning.{most_lines}
use Rattle.switch.specs.Calls.{CarriesAt, carried_to}
use Rattle.steps.specs.WholeMode.{start_decline, carries}
use Rattle.runs.specs.declared.Shortfall.{Shortfall}
use Rattle.law.specs.States.{State, planned, onward}

-- a mode that was run, what became of each uplink's grant, and the state after
pub record ModeRun : Type 0 where
  pub mode : Mode
  pub outcomes : List (Option Outcome)
  pub after : State

-- the units that were carried at each crosspoint
abbrev pub carried_by : List (Option Outcome) → Matrix
carried_by os a b = carried_to b (slice_index_or os a None)

-- the switch opens, grants and runs exactly the plan's next mode, and what it carries leaves the owed units
pub record Advanced (s : State) (r : ModeRun) : Type 0 where
  pub place : ℕ
  pub rest : List Mode
  pub stood : s.plan ≡ planned place (r.mode ∷ rest)
  pub starts : start_decline s.switch ≡ None
  pub sixteen : length r.outcomes ≡ most_lines
  pub carry : (i : ℕ) → CarriesAt (grant_of r.mode i) (slice_index_or r.outcomes i None)
  pub lines : r.after.lines ≡ s.lines
  pub owed : (a b : ℕ) → r.after.owed a b + carried_by r.outcomes a b ≡ s.owed a b
  pub goes_on : r.after.plan ≡ onward place rest
  pub switch : r.after.switch ≡ carries r.mode r.outcomes s.switch

-- runs one after the other
abbrev pub Chain : State → List ModeRun → Type 0
Chain s [] = Unit {0}
Chain s (r ∷ rs) = Advanced s r × Chain r.after rs

abbrev pub last : State → List ModeRun → State
last s [] = s
last s (r ∷ rs) = last r.after rs

-- the units that a grant gave and that were not carried
abbrev pub missing : Option Outcome → ℕ
missing None = 0
missing (Some o) = o.join.units - o.carried

-- those of uplink i, and of all uplinks
abbrev pub missing_at : List (Option Outcome) → ℕ → ℕ
missing_at os i = missing (slice_index_or os i None)

unfoldable pub missed : List (Option Outcome) → ℕ
missed os = sum_below most_lines (missing_at os)

-- the units that fell short in all of these runs
abbrev pub short : List ModeRun → ℕ
short [] = 0
short (r ∷ rs) = missed r.outcomes + short rs

-- the lowest uplink that fell short, or the number of uplinks
unfoldable pub lowest_short : List (Option Outcome) → ℕ
lowest_short os = lowest_below most_lines (missing_at os)

abbrev pub shortfall_at : List (Option Outcome) → ℕ → Option Outcome → Option Shortfall
shortfall_at os i None = None
shortfall_at os i (Some o) = Some (record { up = uplink i; down = o.join.down; missing = missing (Some o); total = missed os })

-- what a step tells of the units that fell short: those of the lowest uplink with its downlink, and all of them
abbrev pub shortfall : List (Option Outcome) → Option Shortfall
shortfall os = cond (nat_lt (lowest_short os) most_lines) (shortfall_at os (lowest_short os) (slice_index_or os (lowest_short os) None)) None

-- what a report says: the uplink fell short by the missing units, no lower one did, and the total is that of all uplinks
pub record Lowest (os : List (Option Outcome)) (x : Shortfall) : Type 0 where
  pub some : 0 < x.missing
  pub here : missing_at os x.up.0 ≡ x.missing
  pub none_below : (i : ℕ) → i < x.up.0 → missing_at os i ≡ 0
  pub all : x.total ≡ missed os

-- a step that tells of nothing missed nothing, and else it tells of the lowest uplink that fell short
abbrev pub ReportIsLowest : Type 0
ReportIsLowest = (os : List (Option Outcome)) → MatchOption (shortfall os) (missed os ≡ 0) (Lowest os)
