-- What an engine's answer says of a support. Assumes nothing.
use Rattle.std.specs.Prelude.{◌≡◌, ℕ, ◌<◌, ◌≤◌, Bool, cond, ◌||◌, List, get_or, Some, None, Option, ◌==◌, nat_lt, slice_index_or}
use Rattle.lines.specs.declared.Downlink.{Downlink}
use Rattle.lines.specs.declared.Place.{Place}
use Rattle.lines.specs.declared.Place.TheVariants.{Nowhere}
use Rattle.lines.specs.Matrix.{downlink}
use Rattle.lines.specs.Sets.{has}
use Rattle.matching.specs.Supports.{Support, in_rows, Matching as MatchingOf, Witness as WitnessOf}
use Rattle.matching.specs.declared.EngineAnswer.{EngineAnswer}
use Rattle.matching.specs.declared.EngineAnswer.TheVariants.{Matching, Witness}
use Rattle.matching.specs.declared.EngineDecline.{EngineDecline}
use Rattle.matching.specs.declared.EngineDecline.TheVariants.{Lines}

-- what stands for no downlink, in the places past the last uplink
abbrev pub unused : Downlink
unused = downlink 255

-- the number of the downlink that uplink i is matched with
abbrev pub mate_of : List Downlink → ℕ → ℕ
mate_of mates i = (get_or mates i unused).0

-- the places past the last uplink hold no downlink
abbrev pub Unused : ℕ → List Downlink → Type 0
Unused n mates = (i : ℕ) → n ≤ i → i < 16 → slice_index_or mates i unused ≡ unused

-- a matching of the rows, or a Hall witness against one
abbrev pub Right : ℕ → List ℕ → EngineAnswer → Type 0
Right n rows (Matching mates) = MatchingOf n (in_rows rows) (mate_of mates) × Unused n mates
Right n rows (Witness set) = WitnessOf n (in_rows rows) (has set)

-- the answers that an engine may give for n and rows of bits
abbrev pub May : Type 1
May = ℕ → List ℕ → EngineAnswer → Type 0

abbrev pub AllRight : May → Type 0
AllRight may = (n : ℕ) (rows : List ℕ) (a : EngineAnswer) → may n rows a → Right n rows a

-- the number of each decline
abbrev pub number : EngineDecline → ℕ
number Lines = 1

abbrev pub place : EngineDecline → Place
place Lines = Nowhere

-- 1: n is outside 1 to 16
abbrev pub find_decline : ℕ → Option EngineDecline
find_decline n = cond (n == 0 || nat_lt 16 n) (Some Lines) None

-- no support has both a matching and a witness
abbrev pub NotBoth : Type 0
NotBoth = (n : ℕ) (s : Support) (mate : ℕ → ℕ) (set : ℕ → Bool) → MatchingOf n s mate → WitnessOf n s set → ⊥
