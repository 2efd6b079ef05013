-- Worked plans. Assumes nothing.
use Rattle.std.proofs.Common.{◌+◌, min, refl, arith}
use Rattle.matching.specs.Answers.{May, AllRight}
use Rattle.padding.specs.Padding.{up_lack, down_lack, Padded}
use Rattle.planning.proofs.Rounds.{positives_most}
use Rattle.planning.proofs.Keeping.{some_mode}
use Rattle.planning.proofs.Serving.{best}
use Rattle.plan_cases.specs.Worked.{three, three_padded, five, Worked}
use Rattle.lines.proofs.Tests.{tested}

pads : Padded 3 three three_padded
pads = tested 3 three_padded (λ i j. three i j + min (up_lack 3 3 three three_padded i j) (down_lack 3 3 three three_padded i j)) refl

pub worked : (may : May) → AllRight may → Worked may
worked may right = record {
  three_busiest = refl;
  three_pads = pads;
  three_positives = refl;
  three_plans = λ ms made. let b = best may right 3 three ms (record { some = omega arith; few = omega arith; owes = omega arith; short = omega arith }) made in (b.tight, omega (arith, b.few three_padded pads));
  five_plans = λ ms made. let b = best may right 1 five ms (record { some = omega arith; few = omega arith; owes = omega arith; short = omega arith }) made in (b.tight, omega (arith, b.few made.padded made.pads, positives_most 1 made.padded, some_mode ms (omega (arith, b.tight))));
}
