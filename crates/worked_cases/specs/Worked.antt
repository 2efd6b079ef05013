-- The worked cases of the rules, by the definitions that the contracts use. Assumes nothing.
use Rattle.std.specs.Prelude.{◌≡◌, ℕ, ◌<◌, ◌≤◌, Bool, List, [], ◌∷◌, length, Some, None, Option}
use Rattle.lines.specs.declared.Line.TheVariants.{Up, Down}
use Rattle.lines.specs.declared.Place.{Place}
use Rattle.lines.specs.declared.Place.TheVariants.{Nowhere, OnLine}
use Rattle.lines.specs.Matrix.{Matrix, cells, busiest, nothing, uplink, downlink, Same}
use Rattle.lines.specs.Sets.{has}
use Rattle.schedule.specs.declared.Mode.{Mode}
use Rattle.schedule.specs.Modes.{span}
use Rattle.matching.specs.Supports.{Support, in_rows, Matchable, Witness}
use Rattle.matching.specs.Answers.{Right}
use Rattle.owed.specs.Calls.{add_decline, added, number as owed_number, place as owed_place}
use Rattle.padding.specs.Padding.{Padded}
use Rattle.planning.specs.declared.decline.PlanDecline.{PlanDecline}
use Rattle.planning.specs.Supports.{positives}
use Rattle.planning.specs.Making.{MadeBy}
use Rattle.planning.specs.Plans.{Stands, number as plan_number, place as plan_place}
use Rattle.switch.specs.Meaning.{Meaning}
use Rattle.switch.specs.Calls.{opens, grants, grant_decline, number as switch_number, place as switch_place}
use Rattle.law.specs.declared.call.Call.TheVariants.{Plan}
use Rattle.law.specs.Declines.{number as session_number, place as session_place}
use Rattle.law.specs.States.{State, idle}
use Rattle.law.specs.Refusals.{refusal}

-- there is a decline, of this number and at this place
abbrev pub Declined : {E : Type 0} → (E → ℕ) → (E → Place) → Option E → ℕ → Place → Type 0
Declined number place None k at = ⊥
Declined number place (Some e) k at = (number e ≡ k) × (place e ≡ at)

-- a session of n lines with nothing owed and no plan
abbrev pub unbooked : ℕ → Meaning → State
unbooked n m = record { lines = n; owed = nothing; plan = idle; «switch» = m }

-- five units on one line
abbrev pub five : Matrix
five = cells ((5 ∷ []) ∷ [])

-- rows 2 1 0, 0 1 2, 1 0 0
abbrev pub three : Matrix
three = cells ((2 ∷ 1 ∷ 0 ∷ []) ∷ (0 ∷ 1 ∷ 2 ∷ []) ∷ (1 ∷ 0 ∷ 0 ∷ []) ∷ [])

-- rows 2 1 0, 0 1 2, 1 1 1
abbrev pub three_padded : Matrix
three_padded = cells ((2 ∷ 1 ∷ 0 ∷ []) ∷ (0 ∷ 1 ∷ 2 ∷ []) ∷ (1 ∷ 1 ∷ 1 ∷ []) ∷ [])

-- as much as a line takes, at (0, 0)
abbrev pub full : Matrix
full = added nothing 0 0 65535

-- the rows {0}, {0}, {0, 1, 2}
abbrev pub two_of_one : Support
two_of_one = in_rows (1 ∷ 1 ∷ 7 ∷ [])

-- `Right` allows every right answer, so the plans made by it are those of every engine
pub record Worked : Type 0 where
  -- nothing owed declines a plan: in a session, and by the planner, whose every decline is that
  pub no_plan : (n size : ℕ) (m : Meaning) → Declined session_number session_place (refusal Plan size (unbooked n m)) 10 Nowhere
  pub nothing_owed : (n : ℕ) → 0 < busiest n nothing → ⊥
  pub no_planning : (n : ℕ) (e : PlanDecline) → Stands (busiest n nothing) e → (plan_number e ≡ 10) × (plan_place e ≡ Nowhere)
  -- one line with 5 units: one mode, of length 5
  pub five_plans : (ms : List Mode) → MadeBy Right 1 five ms → (length ms ≡ 1) × (span ms ≡ 5)
  -- three lines: the busiest line is 3, and padding gives just those rows
  pub three_busiest : busiest 3 three ≡ 3
  pub three_pads : Padded 3 three three_padded
  pub three_pads_only : (p : Matrix) → Padded 3 three p → Same 3 p three_padded
  -- 7 padded crosspoints are above zero, so there are at most 5 modes, of length 3
  pub three_positives : positives 3 three_padded ≡ 7
  pub three_plans : (ms : List Mode) → MadeBy Right 3 three ms → (length ms ≤ 5) × (span ms ≡ 3)
  -- 65,535 units are taken at (0, 0), and then one more at (0, 1) gives 7 for uplink 0
  pub most_taken : add_decline 3 nothing (uplink 0) (downlink 0) 65535 ≡ None
  pub one_too_many : Declined owed_number owed_place (add_decline 3 full (uplink 0) (downlink 1) 1) 7 (OnLine (Up (uplink 0)))
  -- uplinks 0 and 1 are a witness, and the only one, and there is no matching
  pub two_block : Witness 3 two_of_one (has 3)
  pub only_two_block : (set : ℕ → Bool) → Witness 3 two_of_one set → (i : ℕ) → set i ≡ has 3 i
  pub unmatchable : Matchable 3 two_of_one → ⊥
  -- a mode of dwell 3 on three lines takes a grant of 3 units, and one of 4 gives 5
  pub granted : (m : Meaning) → m.lines ≡ 3 → grant_decline (uplink 0) (downlink 1) 3 (opens 3 m) ≡ None
  pub past_dwell : (m : Meaning) → m.lines ≡ 3 → Declined switch_number switch_place (grant_decline (uplink 0) (downlink 1) 4 (opens 3 m)) 5 Nowhere
  -- after the grant (0, 1), the grant (1, 1) gives 14 for downlink 1
  pub taken_twice : (m : Meaning) → m.lines ≡ 3 → Declined switch_number switch_place (grant_decline (uplink 1) (downlink 1) 3 (grants (uplink 0) (downlink 1) 3 (opens 3 m))) 14 (OnLine (Down (downlink 1)))
