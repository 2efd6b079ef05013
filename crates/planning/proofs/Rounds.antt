-- What a matching takes off a matrix whose lines have one sum, round after round. Assumes nothing.
use Rattle.std.proofs.Common.{◌≡◌, ℕ, zero, suc, ◌+◌, ◌-◌, ◌*◌, ◌<◌, ◌≤◌, min, Bool, true, false, cond, eqb, ltb, List, [], ◌∷◌, length, sym, refl, ap, ◌∙◌, inl, inr, arith}
use Rattle.std.proofs.lemmas.Bool.{cases_eq, cases_lt, eq-eqb, ne_eqb, ltb-true, lt-ltb, le-ltb, cond-true, cond-false}
use Rattle.lines.specs.declared.Downlink.{Downlink}
use Rattle.lines.specs.Sums.{sum_below, count_below, one_if}
use Rattle.lines.specs.Matrix.{Matrix, Even, Same, nothing}
use Rattle.lines.specs.Sets.{has}
use Rattle.lines.proofs.Sums.{sum_zeros, sum_same, sum_le, sum_add, sum_const, sum_times, sum_swap, sum_one, sum_tight, term_le_sum, sum_at_most_one}
use Rattle.lines.proofs.Counts.{count_within, count_fewer}
use Rattle.matching.specs.declared.EngineAnswer.TheVariants.{Matching as Given, Witness as Short}
use Rattle.matching.specs.Supports.{Matching, in_rows}
use Rattle.matching.specs.Answers.{May, AllRight, mate_of}
use Rattle.schedule.specs.Modes.{longest_dwell}
use Rattle.planning.specs.Supports.{support, positives, support_rows}
use Rattle.planning.specs.Making.{smallest_below, dwell_of, padded_left, Asked, Usable}
use Rattle.planning.proofs.Bits.{rows_hold}
use Rattle.planning.proofs.Hall.{no_witness, matching_alike, witness_alike}

-- one term smaller and none larger
sum_less : (n : ℕ) (f g : ℕ → ℕ) → ((k : ℕ) → k < n → f k ≤ g k) → (k : ℕ) → k < n → f k < g k → sum_below n f < sum_below n g
sum_less n f g h k l less = elim (cases_lt (sum_below n f) (sum_below n g)) [ inl done ↦ done | inr le ↦ absurd (omega (arith, sum_tight n f g h le k l)) ]

pub hit_here : (x y d : ℕ) → x ≡ y → cond (eqb x y) d 0 ≡ d
hit_here x y d e = cond-true (eqb x y) d 0 (eq-eqb x y e)

pub hit_else : (x y d : ℕ) → (x ≡ y → ⊥) → cond (eqb x y) d 0 ≡ 0
hit_else x y d ne = cond-false (eqb x y) d 0 (ne_eqb x y ne)

one_if_le : (b : Bool) → one_if b ≤ 1
one_if_le true = omega arith
one_if_le false = omega arith

pub one_yes : (b : Bool) → b ≡ true → one_if b ≡ 1
one_yes b e = cond-true {A = ℕ} b 1 0 e

pub one_no : (b : Bool) → b ≡ false → one_if b ≡ 0
one_no b e = cond-false {A = ℕ} b 1 0 e

-- ---- the smallest number

pub smallest_le : (n : ℕ) (f : ℕ → ℕ) (k : ℕ) → k < n → smallest_below n f ≤ f k
smallest_le zero f k l = absurd (omega arith)
smallest_le (suc zero) f k l = let e : k ≡ 0 = omega arith in rw e (omega arith)
smallest_le (suc (suc n)) f k l = elim (cases_eq k (suc n)) [ inl e ↦ rw e (omega arith) | inr ne ↦ omega (arith, smallest_le (suc n) f k (omega arith)) ]

smallest_met : (n : ℕ) (f : ℕ → ℕ) → 0 < n → (k : ℕ) × (k < n) × (f k ≡ smallest_below n f)
smallest_met zero f l = absurd (omega arith)
smallest_met (suc zero) f l = (0, omega arith, refl)
smallest_met (suc (suc n)) f l =
    let w = smallest_met (suc n) f (omega arith) in
    elim (cases_lt (f (suc n)) (smallest_below (suc n) f)) [
      | inl less ↦ (suc n, omega arith, omega arith)
      | inr le ↦ (w.0, omega (arith, w.1), omega (arith, w.2))
    ]

-- one number more, as a loop takes them: at first the limit stands for the smallest
pub smallest_next : (n : ℕ) (f : ℕ → ℕ) (least d : ℕ) → f n ≤ longest_dwell → (n ≡ 0 → least ≡ longest_dwell) → (0 < n → least ≡ smallest_below n f) → d ≡ min least (f n) → d ≡ smallest_below (n + 1) f
smallest_next zero f least d fits first after is = omega (arith, first refl)
smallest_next (suc n) f least d fits first after is = let e : suc n + 1 ≡ suc (suc n) = omega arith in rw e (omega (arith, after (omega arith)))

-- ---- one round

-- a matching of the support, and the smallest number on it
pub record Peel (n : ℕ) (p : Matrix) (mate : ℕ → ℕ) (d : ℕ) : Type 0 where
  pub matching : Matching n (support p) mate
  pub least : (i : ℕ) → i < n → d ≤ p i (mate i)
  pub met : (k : ℕ) × (k < n) × (p k (mate k) ≡ d)

pub peel : (n : ℕ) (p : Matrix) (mates : List Downlink) → 0 < n → Matching n (support p) (mate_of mates) → Peel n p (mate_of mates) (dwell_of n p mates)
peel n p mates some m = record {
  matching = m;
  least = λ i li. smallest_le n (λ i. p i (mate_of mates i)) i li;
  met = smallest_met n (λ i. p i (mate_of mates i)) some;
}

-- d less at each matched crosspoint
abbrev pub taken : Matrix → (ℕ → ℕ) → ℕ → Matrix
taken p mate d i j = p i j - cond (eqb (mate i) j) d 0

module _ (n : ℕ) (mate : ℕ → ℕ) (inside : (i : ℕ) → i < n → mate i < n) (apart : (i h : ℕ) → i < n → h < n → mate i ≡ mate h → i ≡ h) where
  mates_row : (i : ℕ) → i < n → sum_below n (λ j. one_if (eqb (mate i) j)) ≡ 1
  mates_row i li = sum_one n (λ j. one_if (eqb (mate i) j)) (mate i) (inside i li) (λ j _ ne. hit_else (mate i) j 1 (λ e. ne (sym e))) ∙ hit_here (mate i) (mate i) 1 refl

  mates_col_le : (j : ℕ) → j < n → sum_below n (λ i. one_if (eqb (mate i) j)) ≤ 1
  mates_col_le j lj = sum_at_most_one n (λ i. one_if (eqb (mate i) j)) (λ i _. one_if_le (eqb (mate i) j)) (λ x y lx ly p q. apart x y lx ly (is x p ∙ sym (is y q)))
    where
      is : (x : ℕ) → one_if (eqb (mate x) j) ≡ 1 → mate x ≡ j
      is x e = elim (cases_eq (mate x) j) [ inl same ↦ same | inr ne ↦ absurd (omega (arith, hit_else (mate x) j 1 ne)) ]

  -- each downlink is the mate of exactly one uplink
  mates_col : (j : ℕ) → j < n → sum_below n (λ i. one_if (eqb (mate i) j)) ≡ 1
  mates_col j lj =
      sum_tight n (λ j. sum_below n (λ i. one_if (eqb (mate i) j))) (λ _. 1) mates_col_le
      (omega (arith, sum_swap n n (λ i j. one_if (eqb (mate i) j)), sum_same n (λ i. sum_below n (λ j. one_if (eqb (mate i) j))) (λ _. 1) mates_row)) j lj

  taken_back : (p : Matrix) (d : ℕ) → ((i : ℕ) → i < n → d ≤ p i (mate i)) → (i j : ℕ) → i < n → taken p mate d i j + one_if (eqb (mate i) j) * d ≡ p i j
  taken_back p d least i j li =
      elim (cases_eq (mate i) j) [
        | inl e ↦ omega (arith, hit_here (mate i) j d e, hit_here (mate i) j 1 e, ap (p i) e, least i li, ap (λ x. x * d) (hit_here (mate i) j 1 e))
        | inr ne ↦ omega (arith, hit_else (mate i) j d ne, ap (λ x. x * d) (hit_else (mate i) j 1 ne))
      ]

  -- a round leaves every line at b - d
  even_taken : (b : ℕ) (p : Matrix) (d : ℕ) → ((i : ℕ) → i < n → d ≤ p i (mate i)) → Even n b p → Even n (b - d) (taken p mate d)
  even_taken b p d least even = (
    (λ i li.
        omega (arith, sum_add n (taken p mate d i) (λ j. one_if (eqb (mate i) j) * d), sum_same n (λ j. taken p mate d i j + one_if (eqb (mate i) j) * d) (p i) (λ j _. taken_back p d least i j li), sum_times n (λ j. one_if (eqb (mate i) j)) d, ap (λ x. x * d) (mates_row i li), even.0 i li)),
    λ j lj.
        omega (arith, sum_add n (λ i. taken p mate d i j) (λ i. one_if (eqb (mate i) j) * d), sum_same n (λ i. taken p mate d i j + one_if (eqb (mate i) j) * d) (λ i. p i j) (λ i li. taken_back p d least i j li), sum_times n (λ i. one_if (eqb (mate i) j)) d, ap (λ x. x * d) (mates_col j lj), even.1 j lj),
  )

pub even_peel : (n b : ℕ) (p : Matrix) (mate : ℕ → ℕ) (d : ℕ) → Peel n p mate d → Even n b p → Even n (b - d) (taken p mate d)
even_peel n b p mate d peel even = even_taken n mate peel.matching.inside peel.matching.apart b p d peel.least even

-- a round zeroes an entry
fewer : (n : ℕ) (p : Matrix) (mate : ℕ → ℕ) (d : ℕ) → Peel n p mate d → positives n (taken p mate d) < positives n p
fewer n p mate d peel =
    sum_less n (λ i. count_below n (support q i)) (λ i. count_below n (support p i)) (λ i _. count_within n (support q i) (support p i) (λ j _. still i j)) k lk
    (count_fewer n (support q k) (support p k) (mate k) (peel.matching.inside k lk) (λ j _. still k j) (le-ltb 0 (q k (mate k)) (omega (arith, gone))) (peel.matching.held k lk))
  where
    q : Matrix
    q = taken p mate d

    k : ℕ
    k = peel.met.0

    lk : k < n
    lk = peel.met.1

    still : (i j : ℕ) → support q i j ≡ true → support p i j ≡ true
    still i j h = lt-ltb 0 (p i j) (omega (arith, ltb-true 0 (q i j) h))

    gone : q k (mate k) ≡ 0
    gone = omega (arith, hit_here (mate k) (mate k) d refl, peel.met.2)

-- where every line has units, each uplink has a crosspoint above zero
many : (n b : ℕ) (p : Matrix) → 0 < b → Even n b p → n ≤ positives n p
many n b p pos even = omega (arith, sum_const n 1, sum_le n (λ _. 1) (λ i. count_below n (support p i)) row)
  where
    row : (i : ℕ) → i < n → 1 ≤ count_below n (support p i)
    row i li =
        elim (cases_lt 0 (count_below n (support p i))) [
          | inl l ↦ l
          | inr z ↦ absurd (omega (
            arith,
            even.0 i li,
            sum_zeros n (p i) (λ j lj.
                elim (cases_lt 0 (p i j)) [
                  | inl some ↦ absurd (omega (arith, term_le_sum n (λ j. one_if (support p i j)) j lj, one_yes (support p i j) (lt-ltb 0 (p i j) some)))
                  | inr none ↦ omega arith
                ]),
          ))
        ]

-- n rows of n crosspoints
pub positives_most : (n : ℕ) (p : Matrix) → positives n p ≤ n * n
positives_most n p = omega (arith, sum_const n n, sum_le n (λ i. count_below n (support p i)) (λ _. n) (λ i _. omega (arith, sum_const n 1, sum_le n (λ j. one_if (support p i j)) (λ _. 1) (λ j _. one_if_le (support p i j)))))

pub positives_same : (n : ℕ) (p q : Matrix) → Same n p q → positives n p ≡ positives n q
positives_same n p q s = sum_same n (λ i. count_below n (support p i)) (λ i. count_below n (support q i)) (λ i li. sum_same n (λ j. one_if (support p i j)) (λ j. one_if (support q i j)) (λ j lj. ap (λ x. one_if (ltb 0 x)) (s i j li lj)))

pub dwell_le : (n b : ℕ) (p : Matrix) (mate : ℕ → ℕ) (d : ℕ) → 0 < n → Peel n p mate d → Even n b p → d ≤ b
dwell_le n b p mate d some peel even = omega (arith, peel.least 0 some, term_le_sum n (p 0) (mate 0) (peel.matching.inside 0 some), even.0 0 some)

pub dwell_pos : (n : ℕ) (p : Matrix) (mate : ℕ → ℕ) (d : ℕ) → Peel n p mate d → 0 < d
dwell_pos n p mate d peel = let k = peel.met.0 in omega (arith, ltb-true 0 (p k (mate k)) (peel.matching.held k peel.met.1), peel.met.2)

pub usable : (n b : ℕ) (p : Matrix) (mates : List Downlink) → b ≤ longest_dwell → Even n b p → Peel n p (mate_of mates) (dwell_of n p mates) → Usable n p mates
usable n b p mates short even peel = record {
  inside = peel.matching.inside;
  small = λ i li. omega (arith, term_le_sum n (p i) (mate_of mates i) (peel.matching.inside i li), even.0 i li);
}

-- ---- round after round, down to the zero matrix

abbrev pub Peels : ℕ → Matrix → List (List Downlink) → Type 0
Peels n p [] = Same n p nothing
Peels n p (mates ∷ rest) = Peel n p (mate_of mates) (dwell_of n p mates) × Peels n (padded_left n p mates) rest

-- what an engine may give is a matching of the support
pub asked_peel : (may : May) (n : ℕ) (p : Matrix) (mates : List Downlink) → AllRight may → 0 < n → n ≤ 16 → may n (support_rows n p) (Given mates) → Peel n p (mate_of mates) (dwell_of n p mates)
asked_peel may n p mates right some few given =
    peel n p mates some (matching_alike n (in_rows (support_rows n p)) (support p) (mate_of mates) (rows_hold n p few) (right n (support_rows n p) (Given mates) given).0)

-- and it may give no witness where all lines have one sum
pub never_short : (may : May) (n b : ℕ) (p : Matrix) (set : ℕ) → AllRight may → 0 < b → n ≤ 16 → Even n b p → may n (support_rows n p) (Short set) → ⊥
never_short may n b p set right pos few even given =
    no_witness n b p pos even (has set) (witness_alike n (in_rows (support_rows n p)) (support p) (has set) (rows_hold n p few) (right n (support_rows n p) (Short set) given))

pub asked_peels : (may : May) (n : ℕ) (p : Matrix) (ms : List (List Downlink)) → AllRight may → 0 < n → n ≤ 16 → Asked may n p ms → Peels n p ms
asked_peels may n p [] right some few done = done
asked_peels may n p (mates ∷ rest) right some few h = (asked_peel may n p mates right some few h.1, asked_peels may n (padded_left n p mates) rest right some few h.2)

-- the sum of the dwells
abbrev pub total_dwell : ℕ → Matrix → List (List Downlink) → ℕ
total_dwell n p [] = 0
total_dwell n p (mates ∷ rest) = dwell_of n p mates + total_dwell n (padded_left n p mates) rest

-- a zero matrix has no round
spent : (n : ℕ) (p : Matrix) (ms : List (List Downlink)) → 0 < n → Even n 0 p → Peels n p ms → (length ms ≡ 0) × (total_dwell n p ms ≡ 0)
spent n p [] some even h = (refl, refl)
spent n p (mates ∷ rest) some even h =
    absurd (omega (arith, ltb-true 0 (p 0 (mate_of mates 0)) (h.0.matching.held 0 some), term_le_sum n (p 0) (mate_of mates 0) (h.0.matching.inside 0 some), even.0 0 some))

-- at most P - n + 1 rounds, P the number of crosspoints above zero, and the dwells add up to the line sum
pub few_rounds : (n b : ℕ) (p : Matrix) (ms : List (List Downlink)) → 0 < n → 0 < b → Even n b p → Peels n p ms → (length ms + n ≤ positives n p + 1) × (total_dwell n p ms ≡ b)
few_rounds n b p [] some pos even none = absurd (omega (arith, even.0 0 some, sum_zeros n (p 0) (λ j lj. none 0 j some lj)))
few_rounds n b p (mates ∷ rest) some pos even h =
    let d : ℕ = dwell_of n p mates in
    let p' : Matrix = padded_left n p mates in
    let even' : Even n (b - d) p' = even_peel n b p (mate_of mates) d h.0 even in
    let within : d ≤ b = dwell_le n b p (mate_of mates) d some h.0 even in
    elim (cases_lt 0 (b - d)) [
      | inl more ↦
          (let ih = few_rounds n (b - d) p' rest some more even' h.1 in
          (omega (arith, ih.0, fewer n p (mate_of mates) d h.0), omega (arith, ih.1)))
      | inr last ↦
          (let z : b - d ≡ 0 = omega arith in
          let e = spent n p' rest some (rw z at even') h.1 in
          (omega (arith, e.0, many n b p pos even), omega (arith, e.1)))
    ]
