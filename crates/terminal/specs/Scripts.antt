-- The lines of a script, and their answers in turn. Assumes nothing.
use Rattle.std.specs.Prelude.{◌≡◌, ℕ, cond, List, [], ◌∷◌, ◌++◌, Some, None, Option, ◌==◌}
use Rattle.replies.specs.declared.Reply.{Reply}
use Rattle.script.specs.Requests.{request_of}
use Rattle.desk.specs.declared.desk.Desk.{Desk}
use Rattle.desk.specs.declared.stage.Stage.TheVariants.{Start}
use Rattle.desk.specs.Replying.{stage_of, Answers}

-- b in front of the first line
abbrev pub before : ℕ → List (List ℕ) → List (List ℕ)
before b [] = (b ∷ []) ∷ []
before b (l ∷ ls) = (b ∷ l) ∷ ls

-- the lines of a script: each ends at a line feed, and bytes after the last line feed are a line too
abbrev pub lines_of : List ℕ → List (List ℕ)
lines_of [] = []
lines_of (b ∷ bs) = cond (b == 10) ([] ∷ lines_of bs) (before b (lines_of bs))

-- each line is answered, in turn, which leads from d to e
abbrev pub Talk : Desk → List (List ℕ) → List Reply → Desk → Type 0
Talk d [] [] e = d ≡ e
Talk d [] (r ∷ rs) e = ⊥
Talk d (l ∷ ls) [] e = ⊥
Talk d (l ∷ ls) (r ∷ rs) e = (m : Desk) × Answers d (request_of l) r m × Talk m ls rs e

-- lines are answered so from the beginning on
pub record Answered (ls : List (List ℕ)) (rs : List Reply) (e : Desk) : Type 0 where
  pub start : Desk
  pub opened : stage_of start ≡ Start
  pub talk : Talk start ls rs e

-- one answer more, if there is one
abbrev pub told : List Reply → Option Reply → List Reply
told rs None = rs
told rs (Some r) = rs ++ r ∷ []
