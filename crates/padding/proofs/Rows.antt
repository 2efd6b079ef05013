-- The visits of a row, one place after the other. Assumes nothing.
use Rattle.std.proofs.Common.{◌≡◌, ℕ, ◌+◌, ◌-◌, ◌<◌, ◌≤◌, min, ap, ◌∙◌, inl, inr, arith}
use Rattle.std.proofs.lemmas.Bool.{cases_eq}
use Rattle.lines.specs.Sums.{sum_below}
use Rattle.lines.proofs.Sums.{sum_same, sum_next}
use Rattle.padding.specs.Padding.{RowVisited}

-- the first j places are visited, and so many units the uplink still lacks
pub record Visiting (j lack left : ℕ) (row row' lacks lacks' : ℕ → ℕ) : Type 0 where
  pub visited : RowVisited j lack row row' lacks lacks'
  pub spent : left + sum_below j (λ x. row' x - row x) ≡ lack

-- the units u are added at place j
module _ (j lack left u : ℕ) (row r s lacks d e : ℕ → ℕ) (v : Visiting j lack left row r lacks d) (is : u ≡ min left (d j)) (here : s j ≡ r j + u) (others : (k : ℕ) → (k ≡ j → ⊥) → s k ≡ r k) (lower : e j ≡ d j - u) (other-lacks : (k : ℕ) → (k ≡ j → ⊥) → e k ≡ d k) where
  so_far : (k : ℕ) → k ≤ j → sum_below k (λ x. s x - row x) ≡ sum_below k (λ x. r x - row x)
  so_far k l = sum_same k (λ x. s x - row x) (λ x. r x - row x) (λ x lx. ap (λ y. y - row x) (others x (λ e. omega arith)))

  adds : (k : ℕ) → k < j + 1 → s k ≡ row k + min (lack - sum_below k (λ x. s x - row x)) (lacks k)
  adds k l =
      elim (cases_eq k j) [
        | inl same ↦ rw same (omega (arith, here, is, so_far j (omega arith), v.spent, v.visited.row_rest j (omega arith), v.visited.lacks_rest j (omega arith)))
        | inr ne ↦ omega (arith, others k ne, so_far k (omega arith), v.visited.adds k (omega arith))
      ]

  lowers : (k : ℕ) → k < j + 1 → e k + (s k - row k) ≡ lacks k
  lowers k l =
      elim (cases_eq k j) [
        | inl same ↦ rw same (omega (arith, here, is, lower, v.visited.row_rest j (omega arith), v.visited.lacks_rest j (omega arith)))
        | inr ne ↦ omega (arith, others k ne, other-lacks k ne, v.visited.lowers k (omega arith))
      ]

  pub visit_more : Visiting (j + 1) lack (left - u) row s lacks e
  visit_more = record {
    visited = record {
      adds = adds;
      lowers = lowers;
      row_rest = λ k l. others k (λ x. omega arith) ∙ v.visited.row_rest k (omega arith);
      lacks_rest = λ k l. other-lacks k (λ x. omega arith) ∙ v.visited.lacks_rest k (omega arith);
    };
    spent = omega (arith, sum_next j (λ x. s x - row x), so_far j (omega arith), v.spent, here, is, v.visited.row_rest j (omega arith));
  }
