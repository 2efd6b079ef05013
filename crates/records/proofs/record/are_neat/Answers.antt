use Rattle.std.proofs.Common.{refl, rules}
use borrow.Author.Tests.{tests}
use Rattle.std.proofs.lemmas.Iterator.{cases_from_all, YieldsList-from_range}
use Rattle.records.specs.Layout.{entry_at, Neat}
use Rattle.records.proofs.Calls.{all_below}
use Rattle.records.proofs.record.are_neat.Goals as goal

pub returns : goal.returns
returns c =
    all_below (λ i. Neat c.args.lines i (entry_at c.args.bytes.now i)) 16 c.all.result
    (cases_from_all _ _ c.all.result (λ i. Neat c.args.lines i (entry_at c.args.bytes.now i)) (λ i. Neat c.args.lines i (entry_at c.args.bytes.now i) → ⊥) c.all.ensures.ran
    (YieldsList-from_range 0 16 16 refl refl) (λ x q k. search (rules, tests)) (λ x q k. search (rules, tests)))
