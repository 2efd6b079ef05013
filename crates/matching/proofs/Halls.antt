-- No support has both a matching and a witness, and a search that is closed gives a witness. Assumes nothing.
use Rattle.std.proofs.Common.{◌≡◌, ℕ, ◌<◌, ◌≤◌, Bool, true, false, ◌&&◌, sym, refl, ◌∙◌, arith}
use Rattle.std.proofs.lemmas.Bool.{and_from, and_parts, both_ways}
use Rattle.lines.specs.Sums.{count_below}
use Rattle.lines.proofs.Counts.{but, but_other, count_but, count_into, count_some, any_from, any_some}
use Rattle.matching.specs.Supports.{Support, Matching, Witness, Settled, reached}
use Rattle.matching.specs.Answers.{NotBoth}

-- a downlink of a row of the set is reached
pub reached_in : (n : ℕ) (s : Support) (set : ℕ → Bool) (i j : ℕ) → i < n → set i ≡ true → s i j ≡ true → reached n s set j ≡ true
reached_in n s set i j lt is held = any_from n (λ k. set k && s k j) i lt (and_from (set i) (s i j) is held)

pub reached_from : (n : ℕ) (s : Support) (set : ℕ → Bool) (j : ℕ) → reached n s set j ≡ true → (i : ℕ) × (i < n) × (set i ≡ true) × (s i j ≡ true)
reached_from n s set j h =
    let w = any_some n (λ k. set k && s k j) h in
    let both = and_parts (set w.0) (s w.0 j) w.2 in
    (w.0, w.1, both.0, both.1)

-- a matching takes the set's uplinks to as many downlinks of their rows
pub not_both : NotBoth
not_both n s mate set m w =
    let R : ℕ → ℕ → Type 0 = λ i j. (i < n) × (mate i ≡ j) in
    let enough : count_below n set ≤ count_below n (reached n s set) =
    count_into n n set (reached n s set) R
    (λ i lt is. (mate i, m.inside i lt, reached_in n s set i (mate i) lt is (m.held i lt), (lt, refl)))
    (λ i h j a b. m.apart i h a.0 b.0 (a.1 ∙ sym b.1)) in
    omega (arith, w.few)

-- A search is closed: each downlink in a row of the set is held by an uplink of the set, no uplink holds two, and uplink k of the set holds none.
pub closed_witness : (n : ℕ) (s : Support) (set : ℕ → Bool) (holder : ℕ → ℕ) (k : ℕ)
    → ((i : ℕ) → n ≤ i → set i ≡ false) → k < n → set k ≡ true → ((j : ℕ) → j < n → holder j ≡ k → ⊥)
    → ((i j : ℕ) → i < n → j < n → holder i < n → holder i ≡ holder j → i ≡ j)
    → ((u j : ℕ) → u < n → j < n → set u ≡ true → s u j ≡ true → (holder j < n) × (set (holder j) ≡ true))
    → Witness n s set
closed_witness n s set holder k lines lt is none apart closed =
    let R : ℕ → ℕ → Type 0 = λ j h. (j < n) × (h < n) × (holder j ≡ h) in
    let fewer : count_below n (reached n s set) ≤ count_below n (but set k) =
    count_into n n (reached n s set) (but set k) R
    (λ j lj x. let w = reached_from n s set j x in
    let h = closed w.0 j w.1 lj w.2 w.3 in
    (holder j, h.0, but_other set k (holder j) h.1 (none j lj), (lj, h.0, refl)))
    (λ i v h a b. apart i v a.0 b.0 (omega (arith, a.1, a.2)) (a.2 ∙ sym b.2)) in
    record { lines = lines; some = count_some n set k lt is; few = omega (arith, count_but n set k lt is) }

-- either of the two settles which one exists
pub matching_settles : (n : ℕ) (s : Support) (mate : ℕ → ℕ) → Matching n s mate → Settled n s true
matching_settles n s mate m =
    record { matchable = λ _. ((mate, m), λ w. not_both n s mate w.0 m w.1); blocked = λ e. absurd (both_ways true e refl) }

pub witness_settles : (n : ℕ) (s : Support) (set : ℕ → Bool) → Witness n s set → Settled n s false
witness_settles n s set w =
    record { matchable = λ e. absurd (both_ways false refl e); blocked = λ _. ((set, w), λ m. not_both n s m.0 set m.1 w) }
