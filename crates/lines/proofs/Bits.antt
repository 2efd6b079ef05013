-- What the bits of a set's number are: of the empty set, a single line, all lines below n, and of sets joined, met and taken away. Assumes nothing.
use Rattle.std.proofs.Common.{◌≡◌, ℕ, zero, suc, ◌+◌, ◌-◌, ◌*◌, ◌/◌, ◌%◌, ◌^◌, ◌<◌, ◌≤◌, true, false, cond, not, ◌&&◌, ◌||◌, eqb, ltb, sym, refl, ap, ◌∙◌, subst, ap₂, inl, inr, mod-lt, mod-eq_of_lt, one-mul, pow-suc, div-one, add-one, one-add, arith, lit<, pow_pos, pow_mono, shr_lt}
use mathlib.Core.Bool.{or-false}
use native.Mathlib.Nat.{zero-div, div-eq_of_lt, mul-mod_left}
use lib.Bits.{bit_and, bit_or, bit_xor, or_shr, or_mod, and_shr, and_mod, xor_shr, xor_mod, and_mask, xor_add_and}
use lib.Arith.{lt-one}
use lib.Pow.{ones_split, high}
use lib.Count.{ones, ones_step, count_trailing_zeros, under}
use Rattle.std.proofs.lemmas.Nat.{pow-add, pow_below, shl-shr, shr-shr}
use Rattle.std.proofs.lemmas.Bool.{cases_lt, cases_Bool, both_ways, or_right, and_left, le-ltb, lt-ltb}
use Rattle.lines.specs.Sets.{has, In, size}
use Rattle.lines.specs.Sums.{one_if}
use Rattle.lines.proofs.Sums.{sum_front}
use Rattle.lines.proofs.Counts.{count_same}

pub has_zero : (j : ℕ) → has 0 j ≡ false
unfolding has
has_zero j = ap (λ n. eqb (n % 2) 1) (zero-div (2 ^ j))

-- a number of k bits has no line from k up
pub has_over : (k x j : ℕ) → x < 2 ^ k → k ≤ j → has x j ≡ false
unfolding has
has_over k x j lt over = ap (λ n. eqb (n % 2) 1) (div-eq_of_lt (let e : 2 ^ k ≤ 2 ^ j = pow_mono over in omega arith))

pub has_below : (k x j : ℕ) → x < 2 ^ k → In x j → j < k
has_below k x j lt h = elim (cases_lt j k) [ inl below ↦ below | inr over ↦ absurd (both_ways (has x j) (has_over k x j lt over) h) ]

-- ---- digit by digit

digit_or : (p q : ℕ) → p < 2 → q < 2 → eqb (bit_or p q) 1 ≡ (eqb p 1 || eqb q 1)
digit_or zero zero hp hq = refl
digit_or zero (suc zero) hp hq = refl
digit_or zero (suc (suc q)) hp hq = absurd (omega arith)
digit_or (suc zero) zero hp hq = refl
digit_or (suc zero) (suc zero) hp hq = refl
digit_or (suc zero) (suc (suc q)) hp hq = absurd (omega arith)
digit_or (suc (suc p)) q hp hq = absurd (omega arith)

digit_and : (p q : ℕ) → p < 2 → q < 2 → eqb (bit_and p q) 1 ≡ (eqb p 1 && eqb q 1)
digit_and zero zero hp hq = refl
digit_and zero (suc zero) hp hq = refl
digit_and zero (suc (suc q)) hp hq = absurd (omega arith)
digit_and (suc zero) zero hp hq = refl
digit_and (suc zero) (suc zero) hp hq = refl
digit_and (suc zero) (suc (suc q)) hp hq = absurd (omega arith)
digit_and (suc (suc p)) q hp hq = absurd (omega arith)

-- the other digit of each
digit_flip : (p q : ℕ) → p < 2 → q < 2 → eqb q 1 ≡ true → eqb (bit_xor p q) 1 ≡ not (eqb p 1)
digit_flip zero zero hp hq h = absurd (let z : ◌≡◌ {A = ℕ} 0 1 = ap (λ b. cond {A = ℕ} b 1 0) h in omega arith)
digit_flip zero (suc zero) hp hq h = refl
digit_flip zero (suc (suc q)) hp hq h = absurd (omega arith)
digit_flip (suc zero) zero hp hq h = absurd (let z : ◌≡◌ {A = ℕ} 0 1 = ap (λ b. cond {A = ℕ} b 1 0) h in omega arith)
digit_flip (suc zero) (suc zero) hp hq h = refl
digit_flip (suc zero) (suc (suc q)) hp hq h = absurd (omega arith)
digit_flip (suc (suc p)) q hp hq h = absurd (omega arith)

pub has_or : (x y j : ℕ) → has (bit_or x y) j ≡ (has x j || has y j)
unfolding has
has_or x y j =
    ap (λ n. eqb (n % 2) 1) (or_shr x y j)
    ∙ ap (λ n. eqb n 1) (or_mod (x / 2 ^ j) (y / 2 ^ j) 1)
    ∙ digit_or (x / 2 ^ j % 2) (y / 2 ^ j % 2) (mod-lt (x / 2 ^ j) (lit< tt)) (mod-lt (y / 2 ^ j) (lit< tt))

pub has_and : (x y j : ℕ) → has (bit_and x y) j ≡ (has x j && has y j)
unfolding has
has_and x y j =
    ap (λ n. eqb (n % 2) 1) (and_shr x y j)
    ∙ ap (λ n. eqb n 1) (and_mod (x / 2 ^ j) (y / 2 ^ j) 1)
    ∙ digit_and (x / 2 ^ j % 2) (y / 2 ^ j % 2) (mod-lt (x / 2 ^ j) (lit< tt)) (mod-lt (y / 2 ^ j) (lit< tt))

has_flip : (x y j : ℕ) → In y j → has (bit_xor x y) j ≡ not (has x j)
unfolding has
has_flip x y j h =
    ap (λ n. eqb (n % 2) 1) (xor_shr x y j)
    ∙ ap (λ n. eqb n 1) (xor_mod (x / 2 ^ j) (y / 2 ^ j) 1)
    ∙ digit_flip (x / 2 ^ j % 2) (y / 2 ^ j % 2) (mod-lt (x / 2 ^ j) (lit< tt)) (mod-lt (y / 2 ^ j) (lit< tt)) h

-- the test `(x >> j) & 1 == 1`
pub has_test : (x j : ℕ) → eqb (bit_and (x / 2 ^ j) 1) 1 ≡ has x j
unfolding has
has_test x j = ap (λ n. eqb n 1) (and_mask (x / 2 ^ j) 1)

-- ---- a single line

pub has_pow_same : (j : ℕ) → has (2 ^ j) j ≡ true
unfolding has
has_pow_same j = ap (λ n. eqb (n % 2) 1) (ap (λ n. n / 2 ^ j) (sym (one-mul (2 ^ j))) ∙ shl-shr 1 j)

has_pow_below : (i j : ℕ) → i < j → has (2 ^ i) j ≡ false
unfolding has
has_pow_below i j h = ap (λ n. eqb (n % 2) 1) (div-eq_of_lt (pow_below i j h))

has_pow_above : (d j : ℕ) → has (2 ^ (suc d + j)) j ≡ false
unfolding has
has_pow_above d j =
    ap (λ n. eqb (n / 2 ^ j % 2) 1) (pow-add 2 (suc d) j)
    ∙ ap (λ n. eqb (n % 2) 1) (shl-shr (2 ^ suc d) j)
    ∙ ap (λ n. eqb (n % 2) 1) (pow-suc 2 d)
    ∙ ap (λ n. eqb n 1) (mul-mod_left (2 ^ d) 2)

pub has_pow_other : (i j : ℕ) → (i ≡ j → ⊥) → has (2 ^ i) j ≡ false
has_pow_other i j ne =
    elim (cases_lt i j) [
      | inl h ↦ has_pow_below i j h
      | inr h ↦
          let e : suc (i - j - 1) + j ≡ i = omega arith in
          let P : ℕ → Type 0 = λ n. has (2 ^ n) j ≡ false in
          subst P e (has_pow_above (i - j - 1) j)
    ]

-- the set with one more line
pub has_with_same : (x j : ℕ) → has (bit_or x (2 ^ j)) j ≡ true
has_with_same x j = has_or x (2 ^ j) j ∙ or_right (has x j) (has (2 ^ j) j) (has_pow_same j)

pub has_with_other : (x i j : ℕ) → (i ≡ j → ⊥) → has (bit_or x (2 ^ i)) j ≡ has x j
has_with_other x i j ne = has_or x (2 ^ i) j ∙ ap (λ b. has x j || b) (has_pow_other i j ne) ∙ or-false (has x j)

-- ---- all lines below k

odd_ones : (d : ℕ) → eqb ((2 ^ suc d - 1) % 2) 1 ≡ true
odd_ones d =
    let e : (2 ^ suc d - 1) % 2 ≡ 1 = (let p : 2 ^ suc d ≡ 2 ^ d * 2 = pow-suc 2 d in let q : 0 < 2 ^ d = pow_pos d in omega arith) in
    ap (λ n. eqb n 1) e

pub has_ones : (k j : ℕ) → has (2 ^ k - 1) j ≡ ltb j k
unfolding has
has_ones k j =
    elim (cases_lt j k) [
      | inl h ↦
          let d : ℕ = k - j - 1 in
          let e : suc d + j ≡ k = omega arith in
          let P : ℕ → Type 0 = λ n. eqb ((2 ^ n - 1) / 2 ^ j % 2) 1 ≡ true in
          subst P e (ap (λ n. eqb (n / 2 ^ j % 2) 1) (ones_split (suc d) j) ∙ ap (λ n. eqb (n % 2) 1) (high (2 ^ suc d - 1) j (let p : 0 < 2 ^ j = pow_pos j in omega arith)) ∙ odd_ones d)
          ∙ sym (lt-ltb j k h)
      | inr h ↦
          let small : 2 ^ k - 1 < 2 ^ j = (let e : 2 ^ k ≤ 2 ^ j = pow_mono h in let p : 0 < 2 ^ k = pow_pos k in omega arith) in
          ap (λ n. eqb (n % 2) 1) (div-eq_of_lt small) ∙ sym (le-ltb j k h)
    ]

-- the lines below k that are not in x
pub has_not : (k x j : ℕ) → x < 2 ^ k → j < k → has (2 ^ k - 1 - x) j ≡ not (has x j)
has_not k x j lx lj =
    let mask : bit_and x (2 ^ k - 1) ≡ x = and_mask x k ∙ mod-eq_of_lt lx in
    let sum : bit_xor x (2 ^ k - 1) + bit_and x (2 ^ k - 1) * 2 ≡ x + (2 ^ k - 1) = xor_add_and x (2 ^ k - 1) in
    let e : 2 ^ k - 1 - x ≡ bit_xor x (2 ^ k - 1) = (let p : 0 < 2 ^ k = pow_pos k in omega arith) in
    ap (λ n. has n j) e ∙ has_flip x (2 ^ k - 1) j (has_ones k j ∙ lt-ltb j k lj)

-- the lines of x that are not in y, of k
pub has_without : (k x y j : ℕ) → x < 2 ^ k → y < 2 ^ k → has (bit_and x (2 ^ k - 1 - y)) j ≡ (has x j && not (has y j))
has_without k x y j lx ly =
    has_and x (2 ^ k - 1 - y) j
    ∙ elim (cases_lt j k) [
      | inl lj ↦ ap (λ b. has x j && b) (has_not k y j ly lj)
      | inr over ↦
          let none : has x j ≡ false = has_over k x j lx over in
          and_left (has x j) (has (2 ^ k - 1 - y) j) none ∙ sym (and_left (has x j) (not (has y j)) none)
    ]

-- ---- the lowest line, and the rest

digit : (d : ℕ) → d < 2 → ◌≡◌ {A = ℕ} (one_if (eqb d 1)) d
digit zero h = refl
digit (suc zero) h = refl
digit (suc (suc d)) h = absurd (omega arith)

pub has_low : (x : ℕ) → ◌≡◌ {A = ℕ} (one_if (has x 0)) (x % 2)
unfolding has
has_low x = ap (λ n. one_if (eqb (n % 2) 1)) (div-one x) ∙ digit (x % 2) (mod-lt x (lit< tt))

pub has_rest : (x j : ℕ) → has x (suc j) ≡ has (x / 2) j
unfolding has
has_rest x j = ap (λ n. eqb (n % 2) 1) (ap (λ k. x / 2 ^ k) (sym (one-add j)) ∙ sym (shr-shr x 1 j))

-- `count_ones` is the size of a set
pub size_ones : (k x : ℕ) → x < 2 ^ k → size k x ≡ ones x
unfolding ones
size_ones zero x h = sym (ap ones (lt-one h))
size_ones (suc k) x h =
    sum_front k (λ j. one_if (has x j))
    ∙ ap₂ (λ (a b : ℕ). a + b) (has_low x) (count_same k (λ j. has x (suc j)) (has (x / 2)) (λ j _. has_rest x j) ∙ size_ones k (x / 2) (shr_lt k 1 (let P : ℕ → Type 0 = λ z. x < 2 ^ z in subst P (sym (add-one k)) h)))
    ∙ sym (ones_step x)

-- ---- the lowest line

half_pos : (q : ℕ) → 0 < q → q % 2 ≡ 0 → 0 < q / 2
half_pos q h e = omega arith

abbrev First : ℕ → ℕ → Type 0
First x j = In x j × ((i : ℕ) → i < j → has x i ≡ false)

low_is : (x : ℕ) → x % 2 ≡ 1 → has x 0 ≡ true
low_is x e = elim (cases_Bool (has x 0)) [ inl is ↦ is | inr isnt ↦ absurd (omega (arith, has_low x, ap one_if isnt)) ]

low_isnt : (x : ℕ) → x % 2 ≡ 0 → has x 0 ≡ false
low_isnt x e = elim (cases_Bool (has x 0)) [ inl is ↦ absurd (omega (arith, has_low x, ap one_if is)) | inr isnt ↦ isnt ]

first_next : (x j : ℕ) → x % 2 ≡ 0 → First (x / 2) j → First x (suc j)
first_next x j e f = (has_rest x j ∙ f.0, go)
  where
    go : (i : ℕ) → i < suc j → has x i ≡ false
    go zero lt = low_isnt x e
    go (suc i) lt = has_rest x i ∙ f.1 i (omega arith)

pub trailing_first : (k x : ℕ) → 0 < x → x < 2 ^ k → First x (count_trailing_zeros k x)
unfolding count_trailing_zeros
trailing_first zero x p h = absurd (omega (arith, lt-one h))
trailing_first (suc k) x p h =
    go (x % 2) refl (λ e. trailing_first k (x / 2) (half_pos x p e) (shr_lt k 1 (let P : ℕ → Type 0 = λ z. x < 2 ^ z in subst P (sym (add-one k)) h)))
  where
    go : (d : ℕ) → x % 2 ≡ d → (x % 2 ≡ 0 → First (x / 2) (count_trailing_zeros k (x / 2))) → First x (under d (count_trailing_zeros k (x / 2)))
    go zero e rest = first_next x (count_trailing_zeros k (x / 2)) e (rest e)
    go (suc d) e rest = (low_is x (omega arith), λ i lt. absurd (omega arith))

-- ---- of sixteen lines

pub without_16 : (x y : ℕ) → x < 65536 → y < 65536 → (k : ℕ) → has (bit_and x (65535 - y)) k ≡ (has x k && not (has y k))
without_16 x y lx ly k = has_without 16 x y k (omega arith) (omega arith)

pub size_16 : (x : ℕ) → x < 65536 → ones x ≡ size 16 x
size_16 x lx = sym (size_ones 16 x (omega arith))
