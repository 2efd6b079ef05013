-- A script as it comes in, byte by byte. Assumes nothing.
use Rattle.std.specs.Prelude.{◌≡◌, ℕ, List, [], ◌∷◌, ◌++◌, None, MatchBool, Option, MatchOption, ◌==◌, ◌≢◌}
use Rattle.std.specs.List.{AllByRecursion}
use Rattle.line_input.specs.Kept.{is_empty}
use Rattle.line_input.specs.Lines.{Holds}
use Rattle.replies.specs.declared.Reply.{Reply}
use Rattle.script.specs.Requests.{request_of}
use Rattle.desk.specs.Replying.{Answers}
use Rattle.terminal.specs.declared.Terminal.{Terminal}
use Rattle.terminal.specs.Scripts.{Answered}

-- the line is answered r, and another begins
pub record Closed (t : Terminal) (line : List ℕ) (r : Reply) (u : Terminal) : Type 0 where
  pub reply : Answers t.desk (request_of line) r u.desk
  pub next : Holds u.input []

-- the line goes on
pub record Grown (t : Terminal) (line : List ℕ) (u : Terminal) : Type 0 where
  pub same : u.desk ≡ t.desk
  pub next : Holds u.input line

-- byte b comes after the line so far
abbrev pub Took : Terminal → List ℕ → ℕ → Option Reply → Terminal → Type 0
Took t line b r u = MatchBool (b == 10) (MatchOption r ⊥ (λ a. Closed t line a u)) ((r ≡ None) × Grown t (line ++ b ∷ []) u)

-- the input ends after the line so far
abbrev pub Ended : Terminal → List ℕ → Option Reply → Terminal → Type 0
Ended t line r u = MatchBool (is_empty line) ((r ≡ None) × Grown t line u) (MatchOption r ⊥ (λ a. Closed t line a u))

-- a line holds no line feed
abbrev pub Unbroken : List ℕ → Type 0
Unbroken line = AllByRecursion (λ b. b ≢ 10) line

-- lines with a line feed after each
abbrev pub fed : List (List ℕ) → List ℕ
fed [] = []
fed (l ∷ ls) = l ++ (10 ∷ fed ls)

-- the script has come so far, and rs were the answers
pub record Heard (script : List ℕ) (rs : List Reply) (t : Terminal) : Type 0 where
  pub lines : List (List ℕ)
  pub last : List ℕ
  pub laid : script ≡ fed lines ++ last
  pub apart : AllByRecursion Unbroken lines
  pub unbroken : Unbroken last
  pub answered : Answered lines rs t.desk
  pub held : Holds t.input last
