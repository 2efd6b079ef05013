-- What a terminal has been given, and has answered. Assumes nothing.
use Rattle.std.specs.Prelude.{ℕ, List, ◌++◌}
use Rattle.replies.specs.declared.Reply.{Reply}
use Rattle.terminal.specs.declared.Terminal.{Terminal}
use Rattle.terminal.specs.Scripts.{lines_of, Answered}
use Rattle.terminal.specs.Input.{Heard}

-- some script has come so far, and its lines were answered in turn
pub record Hears (t : Terminal) : Type 0 where
  pub script : List ℕ
  pub replies : List Reply
  pub heard : Heard script replies t

-- the script has come so far, and after these replies some more were given
pub record Onward (script : List ℕ) (rs : List Reply) (u : Terminal) : Type 0 where
  pub more : List Reply
  pub heard : Heard script (rs ++ more) u

-- all of these bytes come after what has come
abbrev pub HearsOn : Terminal → List ℕ → Terminal → Type 0
HearsOn t bytes u = (script : List ℕ) (rs : List Reply) → Heard script rs t → Onward (script ++ bytes) rs u

-- some script has come to its end, and each of its lines was answered in turn
pub record HasAnswered (t : Terminal) : Type 0 where
  pub script : List ℕ
  pub replies : List Reply
  pub answered : Answered (lines_of script) replies t.desk
