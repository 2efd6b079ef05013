-- A call has one answer and one effect, but for what the switch chooses and the plan that is made. Assumes nothing.
use Rattle.std.specs.Prelude.{◌≡◌, ℕ, List, [], ◌∷◌}
use Rattle.law.specs.declared.call.Call.{Call}
use Rattle.law.specs.declared.call.Call.TheVariants.{Plan}
use Rattle.law.specs.declared.answer.Answer.{Answer}
use Rattle.law.specs.States.{State}
use Rattle.law.specs.Runs.{ModeRun}
use Rattle.law.specs.Calls.{Maker, Does}

-- the same state, with the owed units compared at each crosspoint
pub record Alike (s t : State) : Type 0 where
  pub lines : s.lines ≡ t.lines
  pub owed : (a b : ℕ) → s.owed a b ≡ t.owed a b
  pub plan : s.plan ≡ t.plan
  pub switch : s.switch ≡ t.switch

-- the switch carried the same, as far as both lists of runs go
abbrev pub Agree : List ModeRun → List ModeRun → Type 0
Agree [] qs = Unit {0}
Agree (r ∷ rs) [] = Unit {0}
Agree (r ∷ rs) (q ∷ qs) = (r.outcomes ≡ q.outcomes) × Agree rs qs

-- two accounts of one call tell the same
pub record Settled (r q : Answer) (found left : List ℕ) (t u : State) : Type 0 where
  pub answer : r ≡ q
  pub buffer : found ≡ left
  pub state : Alike t u

abbrev pub OneAnswer : Maker → Type 0
OneAnswer MadeBy =
    (c : Call) (r q : Answer) (rs qs : List ModeRun) (before found left : List ℕ) (s t u : State) →
    Does MadeBy c r rs before found s t → Does MadeBy c q qs before left s u →
    Agree rs qs → (c ≡ Plan → t.plan ≡ u.plan) → Settled r q found left t u
