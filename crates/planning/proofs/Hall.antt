-- Where all lines have one sum, the rows of any set of uplinks hold enough downlinks. Assumes nothing.
use Rattle.std.proofs.Common.{◌≡◌, ℕ, ◌*◌, ◌<◌, ◌≤◌, Bool, true, false, ◌&&◌, ltb, sym, refl, ◌∙◌, inl, inr, mul-le-mul_right, arith}
use Rattle.std.proofs.lemmas.Bool.{cases_lt, ltb-false}
use Rattle.lines.specs.Sums.{sum_below, count_below, one_if}
use Rattle.lines.specs.Matrix.{Matrix, downlink_sum, Even}
use Rattle.lines.proofs.Sums.{sum_zeros, sum_same, sum_le, sum_times, sum_swap}
use Rattle.lines.proofs.Counts.{any_none, count_within}
use Rattle.matching.specs.Supports.{Support, Matching, Witness, reached}
use Rattle.matching.proofs.Halls.{reached_in, reached_from}
use Rattle.planning.specs.Supports.{support}
use Rattle.planning.specs.Best.{NoWitness}

-- what the set's uplinks put on downlink j
column : (n b : ℕ) (p : Matrix) → ((j : ℕ) → j < n → downlink_sum n p j ≡ b) → (set : ℕ → Bool) (j : ℕ) → j < n → sum_below n (λ i. one_if (set i) * p i j) ≤ one_if (reached n (support p) set j) * b
column n b p down set j lj = go (reached n (support p) set j) refl
  where
    part : (t : Bool) (x : ℕ) → one_if t * x ≤ x
    part true x = omega arith
    part false x = omega arith

    nothing : (t : Bool) (x : ℕ) → (t && ltb 0 x) ≡ false → one_if t * x ≡ 0
    nothing true x e = omega (arith, ltb-false 0 x e)
    nothing false x e = omega arith

    go : (t : Bool) → reached n (support p) set j ≡ t → sum_below n (λ i. one_if (set i) * p i j) ≤ one_if t * b
    go true e = omega (arith, down j lj, sum_le n (λ i. one_if (set i) * p i j) (λ i. p i j) (λ i _. part (set i) (p i j)))
    go false e = omega (arith, sum_zeros n (λ i. one_if (set i) * p i j) (λ i li. nothing (set i) (p i j) (any_none n (λ i. set i && support p i j) e i li)))

-- the rows of any set of uplinks hold at least as many downlinks
enough : (n b : ℕ) (p : Matrix) → 0 < b → Even n b p → (set : ℕ → Bool) → count_below n set ≤ count_below n (reached n (support p) set)
enough n b p pos even set =
    elim (cases_lt (count_below n (reached n (support p) set)) (count_below n set)) [
      | inl l ↦ absurd (omega (arith, mul-le-mul_right b l, through, pos))
      | inr l ↦ l
    ]
  where
    in_row : (i : ℕ) → i < n → one_if (set i) * b ≡ sum_below n (λ j. one_if (set i) * p i j)
    in_row i li = go (set i)
      where
        go : (t : Bool) → one_if t * b ≡ sum_below n (λ j. one_if t * p i j)
        go true = omega (arith, even.0 i li, sum_same n (λ j. 1 * p i j) (p i) (λ j _. omega arith))
        go false = omega (arith, sum_zeros n (λ j. 0 * p i j) (λ j _. omega arith))

    through : count_below n set * b ≤ count_below n (reached n (support p) set) * b
    through =
        omega (arith, sum_times n (λ i. one_if (set i)) b, sum_same n (λ i. one_if (set i) * b) (λ i. sum_below n (λ j. one_if (set i) * p i j)) in_row, sum_swap n n (λ i j. one_if (set i) * p i j), sum_le n (λ j. sum_below n (λ i. one_if (set i) * p i j)) (λ j. one_if (reached n (support p) set j) * b) (column n b p even.1 set), sum_times n (λ j. one_if (reached n (support p) set j)) b)

pub no_witness : NoWitness
no_witness n b p pos even set w = omega (arith, enough n b p pos even set, w.few)

-- the n by n crosspoints are in both or in neither
abbrev pub Alike : ℕ → Support → Support → Type 0
Alike n s t = (i j : ℕ) → i < n → j < n → s i j ≡ t i j

pub matching_alike : (n : ℕ) (s t : Support) (mate : ℕ → ℕ) → Alike n s t → Matching n s mate → Matching n t mate
matching_alike n s t mate h m = record {
  inside = m.inside;
  held = λ i li. sym (h i (mate i) li (m.inside i li)) ∙ m.held i li;
  apart = m.apart;
}

pub witness_alike : (n : ℕ) (s t : Support) (set : ℕ → Bool) → Alike n s t → Witness n s set → Witness n t set
witness_alike n s t set h w = record {
  lines = w.lines;
  some = w.some;
  few = omega (arith, w.few, count_within n (reached n t set) (reached n s set) (λ j lj r. let f = reached_from n t set j r in reached_in n s set f.0 j f.1 f.2 (h f.0 j f.1 lj ∙ f.3)));
}
