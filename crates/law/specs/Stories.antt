-- What a call, and a list of calls, adds to the calls that led to it. Assumes nothing.
use Rattle.std.specs.Prelude.{◌≡◌, ℕ, List, [], ◌∷◌, ◌++◌}
use Rattle.switch.specs.Meaning.{Meaning}
use Rattle.law.specs.declared.call.Call.{Call}
use Rattle.law.specs.declared.answer.Answer.{Answer}
use Rattle.law.specs.States.{State}
use Rattle.law.specs.Runs.{ModeRun}
use Rattle.law.specs.Calls.{Maker, Does}
use Rattle.law.specs.History.{Moment, ends, Linked, Made, Law}

-- the calls since the making that have led to the state s
pub record Story (MadeBy : Maker) (over : Meaning) (start : State) (ms : List Moment) (s : State) : Type 0 where
  pub made : Made over start
  pub linked : Linked MadeBy start ms
  pub end : s ≡ ends start ms

-- a call in the state s: whatever calls led to s, with this one after them they lead on, and the law holds of them all
abbrev pub Next : Maker → Moment → State → Type 0
Next MadeBy m s =
    (over : Meaning) (start : State) (ms : List Moment) → Story MadeBy over start ms s →
    Story MadeBy over start (ms ++ (m ∷ [])) m.state × Law over start (ms ++ (m ∷ []))

-- a call does what is said of it, with some modes run, and the law of all calls holds from the making to its end
pub record Lawful (MadeBy : Maker) (c : Call) (r : Answer) (before after : List ℕ) (s t : State) : Type 0 where
  pub runs : List ModeRun
  pub does : Does MadeBy c r runs before after s t
  pub next : Next MadeBy (record { call = c; answer = r; runs = runs; before = before; after = after; state = t }) s

abbrev pub calls_of : List Moment → List Call
calls_of [] = []
calls_of (m ∷ ms) = m.call ∷ calls_of ms

abbrev pub answers_of : List Moment → List Answer
answers_of [] = []
answers_of (m ∷ ms) = m.answer ∷ answers_of ms

-- one buffer goes from call to call
abbrev pub Handed : List ℕ → List Moment → List ℕ → Type 0
Handed before [] after = after ≡ before
Handed before (m ∷ ms) after = (m.before ≡ before) × Handed m.after ms after

-- exactly these calls, with exactly these answers and one buffer, led from the making over a switch to the state t, and the law holds of them
pub record Performed (MadeBy : Maker) (over : Meaning) (asked : List Call) (given : List Answer) (before after : List ℕ) (t : State) : Type 0 where
  pub start : State
  pub moments : List Moment
  pub story : Story MadeBy over start moments t
  pub called : calls_of moments ≡ asked
  pub answered : answers_of moments ≡ given
  pub buffer : Handed before moments after
  pub law : Law over start moments
