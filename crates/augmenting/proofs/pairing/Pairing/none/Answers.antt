use Rattle.std.proofs.Common.{ap, arith}
use Rattle.std.proofs.lemmas.Bool.{both_ways}
use Rattle.lines.specs.Sets.{has}
use Rattle.lines.proofs.Bits.{has_zero}
use Rattle.augmenting.specs.Holders.{number_or_16}
use Rattle.augmenting.proofs.pairing.Pairing.none.Goals as goal

pub invariant_of-result-clause-told : goal.invariant_of-result-clause-told
invariant_of-result-clause-told c = λ u lu. (λ h _. both_ways (has 0 u) (has_zero u) h, λ _ j lj e. omega (arith, ap number_or_16 (c.all_free.ensures j)))

pub invariant_of-result-clause-apart : goal.invariant_of-result-clause-apart
invariant_of-result-clause-apart c = λ j k w. absurd (omega (arith, ap number_or_16 (c.all_free.ensures j), w.2))
