-- The worked cases. Assumes nothing.
use Rattle.std.proofs.Common.{◌≡◌, ℕ, zero, suc, ◌+◌, ◌<◌, ◌≤◌, min, Bool, true, false, List, [], ◌∷◌, length, sym, refl, ◌∙◌, arith}
use Rattle.lines.specs.declared.Place.TheVariants.{Nowhere}
use Rattle.lines.specs.Matrix.{busiest, nothing}
use Rattle.lines.specs.Sums.{count_below}
use Rattle.lines.specs.Sets.{has}
use Rattle.lines.proofs.Bits.{has_over}
use Rattle.matching.specs.Supports.{Witness, reached}
use Rattle.matching.specs.Answers.{Right}
use Rattle.matching.proofs.Halls.{not_both}
use Rattle.schedule.specs.declared.Mode.{Mode}
use Rattle.schedule.specs.Modes.{span}
use Rattle.owed.proofs.Busiest.{zero_busiest}
use Rattle.padding.specs.Padding.{up_lack, down_lack, Padded}
use Rattle.padding.proofs.Padding.{padding_single}
use Rattle.planning.specs.declared.decline.PlanDecline.{PlanDecline}
use Rattle.planning.specs.declared.decline.PlanDecline.TheVariants.{NothingOwed, NoMemory}
use Rattle.planning.specs.Making.{MadeBy}
use Rattle.planning.specs.Plans.{Stands, number as plan_number, place as plan_place}
use Rattle.planning.proofs.Rounds.{positives_most}
use Rattle.planning.proofs.Serving.{best}
use Rattle.worked_cases.specs.Worked.{five, three, three_padded, two_of_one, Worked}
use Rattle.lines.proofs.Tests.{tested}

-- ---- nothing owed

none_busy : (n : ℕ) → busiest n nothing ≡ 0
none_busy n = omega (arith, zero_busiest n nothing (λ x y. refl))

always_ten : (b : ℕ) (e : PlanDecline) → b ≡ 0 → Stands b e → (plan_number e ≡ 10) × (plan_place e ≡ Nowhere)
always_ten b NothingOwed z s = (refl, refl)
always_ten b NoMemory z s = absurd (omega arith)

-- ---- plans

pads : Padded 3 three three_padded
pads = tested 3 three_padded (λ i j. three i j + min (up_lack 3 3 three three_padded i j) (down_lack 3 3 three three_padded i j)) refl

-- a schedule with a length has a mode
some_mode : (ms : List Mode) → 0 < span ms → 1 ≤ length ms
some_mode [] l = absurd (omega arith)
some_mode (m ∷ ms) l = omega arith

three_made : (ms : List Mode) → MadeBy Right 3 three ms → (length ms ≤ 5) × (span ms ≡ 3)
three_made ms made =
    let b = best Right (λ n rows a r. r) 3 three ms (record { some = omega arith; few = omega arith; owes = omega arith; short = omega arith }) made in
    (omega (arith, b.few three_padded pads), b.tight)

five_made : (ms : List Mode) → MadeBy Right 1 five ms → (length ms ≡ 1) × (span ms ≡ 5)
five_made ms made =
    let b = best Right (λ n rows a r. r) 1 five ms (record { some = omega arith; few = omega arith; owes = omega arith; short = omega arith }) made in
    (omega (arith, b.few made.padded made.pads, positives_most 1 made.padded, some_mode ms (omega (arith, b.tight))), b.tight)

-- ---- a witness

block : Witness 3 two_of_one (has 3)
unfolding has
block = record { lines = λ i l. has_over 2 3 i (omega arith) (omega arith); some = omega arith; few = omega arith }

-- uplinks 0, 1 and 2, each in a set or not
abbrev of_three : Bool → Bool → Bool → ℕ → Bool
of_three a b c zero = a
of_three a b c (suc zero) = b
of_three a b c (suc (suc i)) = c

-- of the eight sets only that of uplinks 0 and 1 reaches too few downlinks
few_two : (a b c : Bool) → count_below 3 (reached 3 two_of_one (of_three a b c)) < count_below 3 (of_three a b c) → (a ≡ true) × (b ≡ true) × (c ≡ false)
unfolding has
few_two true true false l = (refl, refl, refl)
few_two true true true l = absurd (omega arith)
few_two true false true l = absurd (omega arith)
few_two true false false l = absurd (omega arith)
few_two false true true l = absurd (omega arith)
few_two false true false l = absurd (omega arith)
few_two false false true l = absurd (omega arith)
few_two false false false l = absurd (omega arith)

only_block : (set : ℕ → Bool) → Witness 3 two_of_one set → (i : ℕ) → set i ≡ has 3 i
unfolding has
only_block set w zero = (few_two (set 0) (set 1) (set 2) w.few).0
only_block set w (suc zero) = (few_two (set 0) (set 1) (set 2) w.few).1
only_block set w (suc (suc zero)) = (few_two (set 0) (set 1) (set 2) w.few).2
only_block set w (suc (suc (suc i))) = w.lines (suc (suc (suc i))) (omega arith) ∙ sym (has_over 2 3 (suc (suc (suc i))) (omega arith) (omega arith))

pub worked : Worked
worked = record {
  no_plan = λ n size m. rw (none_busy n) (refl, refl);
  nothing_owed = λ n l. omega (arith, none_busy n);
  no_planning = λ n e. always_ten (busiest n nothing) e (none_busy n);
  five_plans = five_made;
  three_busiest = refl;
  three_pads = pads;
  three_pads_only = λ p other. padding_single 3 3 three p three_padded other pads;
  three_positives = refl;
  three_plans = three_made;
  most_taken = refl;
  one_too_many = (refl, refl);
  two_block = block;
  only_two_block = only_block;
  unmatchable = λ m. not_both 3 two_of_one m.0 (has 3) m.1 block;
  granted = λ m e. rw e refl;
  past_dwell = λ m e. rw e (refl, refl);
  taken_twice = λ m e. rw e (refl, refl);
}
