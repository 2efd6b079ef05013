-- The modes of a plan serve what is owed, in the time of the busiest line. Assumes nothing.
use Rattle.std.proofs.Common.{◌≡◌, ℕ, suc, ◌+◌, ◌-◌, ◌*◌, ◌<◌, ◌≤◌, min, List, [], ◌∷◌, length, refl, ap, ◌∙◌, inl, inr, mul-le-mul_right, arith}
use Rattle.std.proofs.lemmas.Bool.{cases_eq}
use Rattle.lines.specs.declared.Downlink.{Downlink}
use Rattle.lines.specs.Matrix.{Matrix, busiest, Even}
use Rattle.matching.specs.Answers.{mate_of, May, AllRight}
use Rattle.schedule.specs.declared.Mode.{Mode}
use Rattle.schedule.specs.Modes.{longest_dwell, granted, AllSound, span, grants, Serves}
use Rattle.schedule.proofs.Modes.{no_shorter}
use Rattle.schedule.proofs.Shops.{no_shorter_shop, no_shorter_parts}
use Rattle.schedule.proofs.Unfolded.{unfolds}
use Rattle.padding.specs.Padding.{Padded}
use Rattle.padding.proofs.Padding.{keeps, padding_fills, padding_single}
use Rattle.planning.specs.Supports.{positives}
use Rattle.planning.specs.Making.{dwell_of, mode_of, padded_left, owed_left, modes_from, MadeBy}
use Rattle.planning.specs.Best.{Best}
use Rattle.planning.proofs.Rounds.{Peels, total_dwell, hit_here, hit_else, even_peel, dwell_le, asked_peels, few_rounds, positives_most, positives_same}
use Rattle.planning.proofs.Grants.{mode_sound, units_are}

pub modes_sound : (n b : ℕ) (p : Matrix) (ms : List (List Downlink)) → 0 < n → n ≤ 16 → b ≤ longest_dwell → Even n b p → Peels n p ms → (q : Matrix) → AllSound n (modes_from n p q ms)
modes_sound n b p [] some few short even h q = tt
modes_sound n b p (mates ∷ rest) some few short even h q =
    let d : ℕ = dwell_of n p mates in
    let within : d ≤ b = dwell_le n b p (mate_of mates) d some h.0 even in (
      mode_sound n b p q mates few h.0 (omega arith),
      modes_sound n (b - d) (padded_left n p mates) rest some few (omega arith) (even_peel n b p (mate_of mates) d h.0 even) h.1 (owed_left n p q mates),
    )

module _ (n : ℕ) (p q : Matrix) (mates : List Downlink) (few : n ≤ 16) (le : (i j : ℕ) → i < n → j < n → q i j ≤ p i j) where
  -- no more is granted than is owed, and what is left is within what is left of the padded numbers
  granted_le : (i j : ℕ) → i < n → granted (mode_of n p q mates) i j ≤ q i j
  granted_le i j li =
      elim (cases_eq (mate_of mates i) j) [
        | inl e ↦ omega (arith, units_are n (dwell_of n p mates) q mates few i j li, hit_here (mate_of mates i) j (min (dwell_of n p mates) (q i j)) e)
        | inr ne ↦ omega (arith, units_are n (dwell_of n p mates) q mates few i j li, hit_else (mate_of mates i) j (min (dwell_of n p mates) (q i j)) ne)
      ]

  left_le : (i j : ℕ) → i < n → j < n → owed_left n p q mates i j ≤ padded_left n p mates i j
  left_le i j li lj =
      elim (cases_eq (mate_of mates i) j) [
        | inl e ↦ omega (arith, le i j li lj, units_are n (dwell_of n p mates) q mates few i j li, hit_here (mate_of mates i) j (min (dwell_of n p mates) (q i j)) e, hit_here (mate_of mates i) j (dwell_of n p mates) e)
        | inr ne ↦ omega (arith, le i j li lj, hit_else (mate_of mates i) j (dwell_of n p mates) ne)
      ]

modes_exact : (n : ℕ) (p : Matrix) (ms : List (List Downlink)) → n ≤ 16 → Peels n p ms → (q : Matrix) → ((i j : ℕ) → i < n → j < n → q i j ≤ p i j) → (i j : ℕ) → i < n → j < n → grants (modes_from n p q ms) i j ≡ q i j
modes_exact n p [] few h q le i j li lj = omega (arith, h i j li lj, le i j li lj)
modes_exact n p (mates ∷ rest) few h q le i j li lj =
    omega (arith, modes_exact n (padded_left n p mates) rest few h.1 (owed_left n p q mates) (left_le n p q mates few le) i j li lj, granted_le n p q mates few le i j li)

modes_long : (n : ℕ) (p q : Matrix) (ms : List (List Downlink)) → (span (modes_from n p q ms) ≡ total_dwell n p ms) × (length (modes_from n p q ms) ≡ length ms)
modes_long n p q [] = (refl, refl)
modes_long n p q (mates ∷ rest) = let ih = modes_long n (padded_left n p mates) (owed_left n p q mates) rest in (ap (λ x. dwell_of n p mates + x) ih.0, ap suc ih.1)

-- what a plan needs: lines, and something owed that a dwell can hold
pub record Fit (n : ℕ) (owed : Matrix) : Type 0 where
  pub some : 0 < n
  pub few : n ≤ 16
  pub owes : 0 < busiest n owed
  pub short : busiest n owed ≤ longest_dwell

module _ (may : May) (right : AllRight may) (n : ℕ) (owed : Matrix) (ms : List Mode) (fit : Fit n owed) (made : MadeBy may n owed ms) where
  peels : Peels n made.padded made.matchings
  peels = asked_peels may n made.padded made.matchings right fit.some fit.few made.asked

  even : Even n (busiest n owed) made.padded
  even = padding_fills n owed made.padded made.pads

  rounds : (length made.matchings + n ≤ positives n made.padded + 1) × (total_dwell n made.padded made.matchings ≡ busiest n owed)
  rounds = few_rounds n (busiest n owed) made.padded made.matchings fit.some fit.owes even peels

  long : (span ms ≡ total_dwell n made.padded made.matchings) × (length ms ≡ length made.matchings)
  long = rw made.modes (modes_long n made.padded owed made.matchings)

  pub serves : Serves n ms owed
  serves = rw made.modes (record {
    sound = modes_sound n (busiest n owed) made.padded made.matchings fit.some fit.few fit.short even peels owed;
    exact = modes_exact n made.padded made.matchings fit.few peels owed (keeps n (busiest n owed) owed made.padded made.pads);
  })

  pub tight : span ms ≡ busiest n owed
  tight = long.0 ∙ rounds.1

  few : (p : Matrix) → Padded n owed p → length ms + n ≤ positives n p + 1
  few p pads = omega (arith, rounds.0, long.1, positives_same n made.padded p (padding_single n (busiest n owed) owed made.padded p made.pads pads))

  pub best : Best n owed ms
  best = record {
    serves = serves;
    shop = unfolds n ms owed serves;
    tight = tight;
    shortest = λ other h. omega (arith, tight, no_shorter n other owed h);
    shortest_shop = λ t shop h. omega (arith, tight, no_shorter_shop n t shop owed h);
    shortest_parts = λ q t shop h. omega (arith, ap (λ x. x * q) tight, no_shorter_parts n q t shop owed h);
    few = few;
    at_most = omega (arith, few made.padded made.pads, positives_most n made.padded, mul-le-mul_right n fit.few);
  }
