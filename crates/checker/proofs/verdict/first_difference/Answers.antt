use Rattle.std.proofs.Common.{◌≡◌, ℕ, ◌<◌, Some, None, Option, MatchOption, subst, arith, rules}
use borrow.Author.Tests.{tests}
use Rattle.lines.specs.declared.Crosspoint.{Crosspoint}
use Rattle.lines.specs.Matrix.{Matrix, cells, Same}
use Rattle.owed.specs.Calls.{units_of}
use Rattle.checker.specs.Check.{FirstDiffers}
use Rattle.checker.proofs.Search.{found}
use Rattle.checker.proofs.verdict.first_difference.Goals as goal

module _ (n : ℕ) (p q : Matrix) where
  abbrev SameRow : ℕ → Type 0
  SameRow i = (y : ℕ) → y < n → p i y ≡ q i y

  -- x is the first of row i that differs
  abbrev InRow : ℕ → Crosspoint → Type 0
  InRow i x = (x.up.0 ≡ i) × (x.down.0 < n) × (p x.up.0 x.down.0 ≡ q x.up.0 x.down.0 → ⊥) × ((y : ℕ) → y < x.down.0 → p x.up.0 y ≡ q x.up.0 y)

  -- the first of the first row that has one is the first of all
  first : (end : ℕ) (r : Option Crosspoint) → end ≡ n → MatchOption r ((i : ℕ) → i < end → SameRow i) (λ x. (i : ℕ) × (i < end) × InRow i x × ((k : ℕ) → k < i → SameRow k)) → MatchOption r (Same n p q) (FirstDiffers n p q)
  first end None e same = λ i j li lj. same i (omega arith) j lj
  first end (Some x) e (i, inside, (up, down, differs, row), rows) =
      record { uplink = omega (arith, up, inside); downlink = down; differs = differs; rows = λ a b la lb. rows a (omega (arith, up)) b lb; row = row }

pub returns : goal.returns
returns c =
    let n = c.line_count-lines.result.count in
    let p = cells c.args.totals.now in
    let q = cells c.rows-rows.result in
    let told = found _ _ (SameRow n p q) (InRow n p q) (λ a r f k. search rules) (λ i k. search (rules, tests)) (λ i x k. search (rules, tests)) c.count.result c.find_map.result c.find_map.ensures.runs in
    subst (λ (k : ℕ). MatchOption c.find_map.result (Same k p (units_of c.args.owed.now)) (FirstDiffers k p (units_of c.args.owed.now))) c.line_count-lines.ensures
    (subst (λ (m : Matrix). MatchOption c.find_map.result (Same n p m) (FirstDiffers n p m)) c.rows-rows.ensures (first n p q c.count.result c.find_map.result c.count.ensures told))
