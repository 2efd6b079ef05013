-- What a mode grants is carried or missing. Assumes nothing.
use Rattle.std.proofs.Common.{◌≡◌, ℕ, zero, suc, ◌+◌, ◌<◌, ◌≤◌, cond, eqb, List, length, get_or, Some, None, Option, ap, inl, inr, arith}
use Rattle.std.proofs.lemmas.Bool.{cases_lt}
use Rattle.std.proofs.lemmas.Bool.Decides.{nat_tests}
use Rattle.std.proofs.lemmas.List.{get_or_past}
use Rattle.lines.specs.declared.Line.{Line}
use Rattle.lines.specs.Sums.{sum_below}
use Rattle.lines.specs.Matrix.{Matrix, load, Inside, total}
use Rattle.lines.proofs.Sums.{sum_le, sum_prefix}
use Rattle.lines.proofs.Loads.{load_total}
use Rattle.schedule.specs.declared.Join.{Join}
use Rattle.schedule.specs.Modes.{units_to, grant_of, granted}
use Rattle.schedule.proofs.Modes.{sum_single}
use Rattle.switch.specs.declared.Outcome.{Outcome}
use Rattle.switch.specs.Meaning.{most_lines}
use Rattle.switch.specs.Calls.{CarriesAt, carried_to}
use Rattle.law.specs.States.{State}
use Rattle.law.specs.Runs.{ModeRun, Advanced, carried_by, missing, missing_at, missed}

-- the units that a grant to downlink j gave and that were not carried
abbrev pub missing_to : ℕ → Option Outcome → ℕ
missing_to j None = 0
missing_to j (Some o) = cond (eqb o.join.down.0 j) (missing (Some o)) 0

abbrev pub lacking : List (Option Outcome) → Matrix
lacking os a b = missing_to b (get_or os a None)

parted_at : (x : Option Join) (o : Option Outcome) (j : ℕ) → CarriesAt x o → units_to j x ≡ carried_to j o + missing_to j o
parted_at None None j h = omega arith
parted_at None (Some o) j h = absurd h
parted_at (Some x) None j h = absurd h
parted_at (Some x) (Some o) j h =
    let d : o.join.down.0 ≡ x.down.0 = ap (λ (y : Join). y.down.0) h.0 in
    let u : o.join.units ≡ x.units = ap (λ (y : Join). y.units) h.0 in
    let l : o.carried ≤ x.units = h.1 in
    grind (arith, nat_tests, d, u, l)

pub parted : (s : State) (r : ModeRun) → Advanced s r → (a b : ℕ) → granted r.mode a b ≡ carried_by r.outcomes a b + lacking r.outcomes a b
parted s r w a b = parted_at (grant_of r.mode a) (get_or r.outcomes a None) b (w.carry a)

missing_small : (o : Option Outcome) (j : ℕ) → missing_to j o ≤ missing o
missing_small None j = omega arith
missing_small (Some o) j = grind (arith, nat_tests)

missing_once : (o : Option Outcome) (j k : ℕ) → 0 < missing_to j o → 0 < missing_to k o → j ≡ k
missing_once None j k h l = absurd (omega arith)
missing_once (Some o) j k h l = grind (arith, nat_tests)

row_missing : (n : ℕ) (o : Option Outcome) → sum_below n (λ j. missing_to j o) ≤ missing o
row_missing n o = sum_single n (λ j. missing_to j o) (missing o) (missing_small o) (missing_once o)

-- nothing is added past m
sum_within : (n m : ℕ) (f : ℕ → ℕ) → ((k : ℕ) → m ≤ k → f k ≡ 0) → sum_below n f ≤ sum_below m f
sum_within zero m f h = omega arith
sum_within (suc n) m f h = elim (cases_lt n m) [ inl l ↦ sum_prefix (suc n) m f l | inr l ↦ omega (arith, sum_within n m f h, h n l) ]

-- no line lacks more than all uplinks do
pub load_missed : (n : ℕ) (l : Line) (os : List (Option Outcome)) → Inside n l → length os ≡ most_lines → load n l (lacking os) ≤ missed os
unfolding missed
load_missed n l os i e =
    let rows : total n (lacking os) ≤ sum_below n (missing_at os) = sum_le n (λ a. sum_below n (λ b. lacking os a b)) (missing_at os) (λ a _. row_missing n (get_or os a None)) in
    let past : (k : ℕ) → most_lines ≤ k → missing_at os k ≡ 0 = λ k h. ap missing (get_or_past os k None (omega arith)) in
    omega (arith, load_total n l (lacking os) i, rows, sum_within n most_lines (missing_at os) past)
