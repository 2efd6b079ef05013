-- Sets of lines as numbers, and the rows of a support. Assumes nothing.
use Rattle.std.proofs.Common.{◌≡◌, ℕ, zero, suc, ◌+◌, ◌-◌, ◌*◌, ◌/◌, ◌%◌, ◌^◌, ◌<◌, ◌≤◌, Bool, true, false, ltb, List, length, get_or, refl, ap, ◌∙◌, inr, arith}
use Rattle.std.proofs.lemmas.List.FromFn.{get_or-map-range_with_len, fill_by_all}
use Rattle.std.proofs.lemmas.Bool.{lt-ltb, le-ltb, cond-true}
use Rattle.lines.specs.Sums.{one_if}
use Rattle.lines.specs.Matrix.{Matrix, Blank}
use Rattle.lines.specs.Sets.{has}
use Rattle.lines.proofs.Sums.{sum_zeros, sum_front, sum_same, sum_split, sum_times, sum_next}
use Rattle.lines.proofs.Bits.{has_rest}
use Rattle.matching.specs.Supports.{in_rows}
use Rattle.planning.specs.Supports.{support, in_bits, row_of_support, support_rows}

bits_front : (n : ℕ) (s : ℕ → Bool) → in_bits (suc n) s ≡ one_if (s 0) + 2 * in_bits n (λ k. s (suc k))
bits_front n s =
    omega (arith, sum_front n (λ k. one_if (s k) * 2 ^ k), sum_same n (λ k. one_if (s (suc k)) * 2 ^ suc k) (λ k. one_if (s (suc k)) * 2 ^ k * 2) (λ k _. twice (s (suc k)) k), sum_times n (λ k. one_if (s (suc k)) * 2 ^ k) 2)
  where
    twice : (b : Bool) (k : ℕ) → one_if b * 2 ^ suc k ≡ one_if b * 2 ^ k * 2
    twice true k = omega arith
    twice false k = omega arith

bit_first : (b : Bool) (v : ℕ) → has (one_if b + 2 * v) 0 ≡ b
unfolding has
bit_first true v = let e : (1 + 2 * v) / 2 ^ 0 % 2 ≡ 1 = omega arith in rw e refl
bit_first false v = let e : (0 + 2 * v) / 2 ^ 0 % 2 ≡ 0 = omega arith in rw e refl

half : (b : Bool) (v : ℕ) → (one_if b + 2 * v) / 2 ≡ v
half true v = omega arith
half false v = omega arith

-- bit j says whether line j is in the set
pub bits_has : (n : ℕ) (s : ℕ → Bool) (j : ℕ) → j < n → has (in_bits n s) j ≡ s j
bits_has zero s j l = absurd (omega arith)
bits_has (suc n) s zero l = ap (λ x. has x 0) (bits_front n s) ∙ bit_first (s 0) (in_bits n (λ k. s (suc k)))
bits_has (suc n) s (suc j) l =
    ap (λ x. has x (suc j)) (bits_front n s) ∙ has_rest (one_if (s 0) + 2 * in_bits n (λ k. s (suc k))) j ∙ ap (λ x. has x j) (half (s 0) (in_bits n (λ k. s (suc k)))) ∙ bits_has n (λ k. s (suc k)) j (omega arith)

pub bits_small : (n : ℕ) (s : ℕ → Bool) → in_bits n s < 2 ^ n
bits_small zero s = omega arith
bits_small (suc n) s = go (s n) (bits_small n s)
  where
    go : (b : Bool) → in_bits n s < 2 ^ n → in_bits n s + one_if b * 2 ^ n < 2 ^ suc n
    go true l = omega arith
    go false l = omega arith

-- one line more, as a loop counts
pub bits_next : (n : ℕ) (s : ℕ → Bool) → in_bits (n + 1) s ≡ in_bits n s + one_if (s n) * 2 ^ n
bits_next n s = sum_next n (λ k. one_if (s k) * 2 ^ k)

-- the rows hold the support
pub rows_hold : (n : ℕ) (p : Matrix) → n ≤ 16 → (i j : ℕ) → i < n → j < n → in_rows (support_rows n p) i j ≡ support p i j
unfolding support_rows
rows_hold n p few i j li lj =
    ap (λ x. has x j) (get_or-map-range_with_len (row_of_support n p) 0 16 i i 0 (omega arith) (omega arith) ∙ cond-true (ltb i n) (in_bits n (support p i)) 0 (lt-ltb i n li))
    ∙ bits_has n (support p i) j lj

-- rows that are the support's, row by row
pub rows_are : (n : ℕ) (p : Matrix) (rows : List ℕ) → length rows ≡ 16 → ((i : ℕ) → i < 16 → get_or rows i 0 ≡ row_of_support n p i) → rows ≡ support_rows n p
unfolding support_rows
rows_are n p rows long each = fill_by_all (row_of_support n p) rows 16 0 long each

-- no lines from n up, so that more places do not matter
bits_wider : (n m : ℕ) (s : ℕ → Bool) → n ≤ m → ((j : ℕ) → n ≤ j → s j ≡ false) → in_bits m s ≡ in_bits n s
bits_wider n m s le none =
    let whole : n + (m - n) ≡ m = omega arith in
    omega (
      arith,
      ap (λ k. in_bits k s) whole,
      sum_split n (m - n) (λ k. one_if (s k) * 2 ^ k),
      sum_zeros (m - n) (λ k. one_if (s (n + k)) * 2 ^ (n + k)) (λ k _. omega (arith, ap (λ b. one_if b * 2 ^ (n + k)) (none (n + k) (omega arith)))),
    )

-- where nothing stands outside the lines, all sixteen places hold a row of the support
pub row_wider : (n : ℕ) (p : Matrix) → n ≤ 16 → Blank n p → (i : ℕ) → in_bits 16 (support p i) ≡ in_bits n (support p i)
row_wider n p few blank i = bits_wider n 16 (support p i) few (λ j over. le-ltb 0 (p i j) (omega (arith, blank i j (inr over))))
