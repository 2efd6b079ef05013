-- Making a plan: how the matchings of an engine become modes. Assumes nothing.
use Rattle.std.specs.Prelude.{◌≡◌, ℕ, zero, suc, ◌-◌, ◌<◌, ◌≤◌, min, cond, List, [], ◌∷◌, map, Some, None, Option, ◌==◌, nat_lt, slice_index_or}
use Rattle.std.specs.List.{range_with_len}
use Rattle.lines.specs.declared.Downlink.{Downlink}
use Rattle.lines.specs.Matrix.{Matrix, Same, nothing}
use Rattle.matching.specs.declared.EngineAnswer.TheVariants.{Matching}
use Rattle.matching.specs.Answers.{unused, mate_of, May}
use Rattle.schedule.specs.declared.Join.{Join}
use Rattle.schedule.specs.declared.Mode.{Mode}
use Rattle.schedule.specs.Modes.{longest_dwell, granted}
use Rattle.padding.specs.Padding.{Padded}
use Rattle.planning.specs.Supports.{support_rows}

-- the smallest of f 0 .. f (n - 1), and 0 where n is 0
abbrev pub smallest_below : ℕ → (ℕ → ℕ) → ℕ
smallest_below zero f = 0
smallest_below (suc zero) f = f 0
smallest_below (suc (suc n)) f = min (smallest_below (suc n) f) (f (suc n))

-- the dwell: the smallest padded number on the matching
abbrev pub dwell_of : ℕ → Matrix → List Downlink → ℕ
dwell_of n p mates = smallest_below n (λ i. p i (mate_of mates i))

-- a grant of u units to downlink j; none where u is 0
abbrev pub grant_for : Downlink → ℕ → Option Join
grant_for j u = cond (u == 0) None (Some (record { down = j; units = u }))

-- what uplink i is granted in a mode of dwell d: the smaller of the dwell and its units not yet planned
abbrev pub grant_at : ℕ → ℕ → Matrix → List Downlink → ℕ → Option Join
grant_at n d q mates i = cond (nat_lt i n) (grant_for (slice_index_or mates i unused) (min d (q i (mate_of mates i)))) None

unfoldable pub grant_row : ℕ → ℕ → Matrix → List Downlink → List (Option Join)
grant_row n d q mates = map (grant_at n d q mates) (range_with_len 0 16)

-- the mode of a matching, for the padded numbers p and the units q not yet planned
abbrev pub mode_of : ℕ → Matrix → Matrix → List Downlink → Mode
mode_of n p q mates = record { dwell = dwell_of n p mates; row = grant_row n (dwell_of n p mates) q mates }

-- p less q
abbrev pub minus : Matrix → Matrix → Matrix
minus p q i j = p i j - q i j

-- d at each matched crosspoint, 0 at all others
abbrev pub matched : List Downlink → ℕ → Matrix
matched mates d i j = cond (mate_of mates i == j) d 0

-- the dwell leaves each matched padded number
abbrev pub padded_left : ℕ → Matrix → List Downlink → Matrix
padded_left n p mates = minus p (matched mates (dwell_of n p mates))

-- and the granted units leave those not yet planned
abbrev pub owed_left : ℕ → Matrix → Matrix → List Downlink → Matrix
owed_left n p q mates = minus q (granted (mode_of n p q mates))

-- matching after matching
abbrev pub modes_from : ℕ → Matrix → Matrix → List (List Downlink) → List Mode
modes_from n p q [] = []
modes_from n p q (mates ∷ rest) = mode_of n p q mates ∷ modes_from n (padded_left n p mates) (owed_left n p q mates) rest

-- while the padded matrix is not zero, each matching is one that the engine may give for its support
abbrev pub Asked : May → ℕ → Matrix → List (List Downlink) → Type 0
Asked may n p [] = Same n p nothing
Asked may n p (mates ∷ rest) = (Same n p nothing → ⊥) × may n (support_rows n p) (Matching mates) × Asked may n (padded_left n p mates) rest

-- the modes are those of some matchings of the engine, for the padded matrix of what is owed
pub record MadeBy (may : May) (n : ℕ) (owed : Matrix) (ms : List Mode) : Type 0 where
  pub padded : Matrix
  pub pads : Padded n owed padded
  pub matchings : List (List Downlink)
  pub asked : Asked may n padded matchings
  pub modes : ms ≡ modes_from n padded owed matchings

-- the mates are downlinks, and a dwell can hold the numbers at them
pub record Usable (n : ℕ) (p : Matrix) (mates : List Downlink) : Type 0 where
  pub inside : (i : ℕ) → i < n → mate_of mates i < n
  pub small : (i : ℕ) → i < n → p i (mate_of mates i) ≤ longest_dwell

-- the mates give the mode m, and p and q become p' and q'
pub record Turned (n : ℕ) (p q p' q' : Matrix) (mates : List Downlink) (m : Mode) : Type 0 where
  pub dwell : m.dwell ≡ dwell_of n p mates
  pub row : m.row ≡ grant_row n m.dwell q mates
  pub padded : p' ≡ minus p (matched mates m.dwell)
  pub owed : q' ≡ minus q (granted m)
