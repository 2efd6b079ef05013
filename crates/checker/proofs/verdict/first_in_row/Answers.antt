use Rattle.std.proofs.Common.{◌≡◌, ◌≢◌, ℕ, ◌<◌, ◌≤◌, slice_index, Some, None, Option, MatchOption, arith, rules}
use borrow.Author.Tests.{tests}
use Rattle.std.proofs.lemmas.Iterator.{first_from_Range}
use Rattle.checker.proofs.verdict.first_in_row.Goals as goal

-- the range begins at 0, and ends at n
from_zero : (n end : ℕ) (Yes No : ℕ → Type 0) (r : Option ℕ) → end ≡ n
    → MatchOption r ((k : ℕ) → 0 ≤ k → k < end → No k) (λ i. (0 ≤ i) × (i < end) × Yes i × ((k : ℕ) → 0 ≤ k → k < i → No k))
    → MatchOption r ((k : ℕ) → k < n → No k) (λ i. (i < n) × Yes i × ((k : ℕ) → k < i → No k))
from_zero n end Yes No None e none = λ k l. none k (omega arith) (omega arith)
from_zero n end Yes No (Some i) e found = (omega arith, found.2, λ k l. found.3 k (omega arith) l)

pub returns : goal.returns
returns c =
    from_zero c.args.lines.count c.count.result (λ j. slice_index c.args.ours.now j ≢ slice_index c.args.theirs.now j) (λ j. slice_index c.args.ours.now j ≡ slice_index c.args.theirs.now j) c.find.result c.count.ensures
    (first_from_Range _ _ _ c.find.result (λ j. slice_index c.args.ours.now j ≢ slice_index c.args.theirs.now j) (λ j. slice_index c.args.ours.now j ≡ slice_index c.args.theirs.now j) c.find.ensures.ran
    (λ x q k. search (rules, tests)) (λ x q k. search (rules, tests)))
