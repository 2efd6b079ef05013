-- What a script line asks for: its letter and the numbers that its words write. Assumes nothing.
use Rattle.std.specs.Prelude.{◌≡◌, ℕ, ◌≤◌, cond, List, [], ◌∷◌, ◌++◌, length, Some, None, Option, ◌==◌}
use Rattle.lines.specs.Matrix.{uplink, downlink}
use Rattle.script.specs.Words.{split, spaced}
use Rattle.script.specs.Numerals.{number_of, Writes}
use Rattle.script.specs.Commands.{letter, parts, longest, readable}
use Rattle.lines.specs.declared.Uplink.{Uplink}
use Rattle.lines.specs.declared.Downlink.{Downlink}
use Rattle.script.specs.declared.commands.Command.{Command}
use Rattle.script.specs.declared.commands.Command.TheVariants.{Lines, Fault, Post, Withdraw, Plan, Step, Run, Drop, Owed}

-- a command whose parts are numbers
abbrev pub Request : Type 0
Request = Command Uplink Downlink ℕ

-- its numbers, in their order on the line
abbrev pub numbers : Request → List ℕ
numbers q = parts (λ i. i.0) (λ j. j.0) (λ n. n) q

-- words write numbers, each its own
abbrev pub Write : List (List ℕ) → List ℕ → Type 0
Write [] [] = Unit {0}
Write [] (n ∷ ns) = ⊥
Write (w ∷ ws) [] = ⊥
Write (w ∷ ws) (n ∷ ns) = Writes w n × Write ws ns

-- a line makes a request: it is the request's letter and then its numbers, with one space before each
pub record Makes (line : List ℕ) (q : Request) : Type 0 where
  pub words : List (List ℕ)
  pub laid : line ≡ letter q ++ spaced words
  pub write : Write words (numbers q)
  pub short : length line ≤ longest

-- the same as a test that computes: a number in front of numbers, if all are there
abbrev pub both : Option ℕ → Option (List ℕ) → Option (List ℕ)
both None ns = None
both (Some n) None = None
both (Some n) (Some ns) = Some (n ∷ ns)

-- the numbers that words write, if all write one
abbrev pub read_all : List (List ℕ) → Option (List ℕ)
read_all [] = Some []
read_all (w ∷ ws) = both (number_of w) (read_all ws)

-- the request of a letter and numbers
abbrev pub request : ℕ → List ℕ → Option Request
request l [] = cond (l == 109) (Some Plan) (cond (l == 115) (Some Step) (cond (l == 100) (Some Drop) None))
request l (n ∷ []) = cond (l == 110) (Some (Lines n)) (cond (l == 114) (Some (Run n)) None)
request l (i ∷ j ∷ []) = cond (l == 111) (Some (Owed (uplink i) (downlink j))) None
request l (i ∷ j ∷ u ∷ []) =
    cond (l == 112) (Some (Post (uplink i) (downlink j) u)) (cond (l == 119) (Some (Withdraw (uplink i) (downlink j) u)) None)
request l (i ∷ j ∷ c ∷ t ∷ []) = cond (l == 102) (Some (Fault (uplink i) (downlink j) c t)) None
request l (i ∷ j ∷ c ∷ t ∷ n ∷ ns) = None

abbrev pub requested : List ℕ → Option (List ℕ) → Option Request
requested [] ns = None
requested (l ∷ []) None = None
requested (l ∷ []) (Some ns) = request l ns
requested (l ∷ m ∷ ls) ns = None

-- the request of a line's pieces
abbrev pub asked : List (List ℕ) → Option Request
asked [] = None
asked (w ∷ ws) = requested w (read_all ws)

-- the request that a line makes, or none where it is unreadable
abbrev pub request_of : List ℕ → Option Request
request_of line = cond (readable line) (asked (split line)) None

-- r is the one request that a line makes, or none where it makes none
abbrev pub Meant : List ℕ → Option Request → Type 0
Meant line None = (q : Request) → Makes line q → ⊥
Meant line (Some q) = Makes line q × ((p : Request) → Makes line p → p ≡ q)
