-- A row of bits, cut to the lines below n. Assumes nothing.
use Rattle.std.proofs.Common.{◌≡◌, ℕ, ◌^◌, ◌<◌, ◌≤◌, ◌&&◌, ltb, ap, ◌∙◌, sym, inl, inr}
use lib.Bits.{bit_and}
use Rattle.std.proofs.Math.Bool.{and-true}
use Rattle.std.proofs.lemmas.Bool.{cases_lt, and_left, and_right, lt-ltb, le-ltb}
use Rattle.lines.specs.Sets.{has}
use Rattle.lines.proofs.Bits.{has_zero, has_over, has_and}

pub row_kept : (n lines row i j : ℕ) → row < 2 ^ 16 → i < n → ((k : ℕ) → has lines k ≡ (ltb k n && ltb k 16)) → has (bit_and row lines) j ≡ (has row j && (ltb i n && ltb j n))
row_kept n lines row i j lr li below =
    let right : (ltb i n && ltb j n) ≡ ltb j n = ap (λ b. b && ltb j n) (lt-ltb i n li) in
    has_and row lines j
    ∙ ap (λ b. has row j && b) (below j)
    ∙ elim (cases_lt j 16) [
      | inl lj ↦ ap (λ b. has row j && b) (ap (λ b. ltb j n && b) (lt-ltb j 16 lj) ∙ and-true (ltb j n) ∙ sym right)
      | inr over ↦ and_left (has row j) (ltb j n && ltb j 16) (has_over 16 row j lr over) ∙ sym (and_left (has row j) (ltb i n && ltb j n) (has_over 16 row j lr over))
    ]

pub row_gone : (n row i j : ℕ) → n ≤ i → has 0 j ≡ (has row j && (ltb i n && ltb j n))
row_gone n row i j ge = has_zero j ∙ sym (and_right (has row j) (ltb i n && ltb j n) (and_left (ltb i n) (ltb j n) (le-ltb i n ge)))
