-- Lists of calls that are performed one after the other. Assumes nothing.
use Rattle.std.proofs.Common.{◌≡◌, ℕ, List, [], ◌∷◌, ◌++◌, refl, ap, ◌∙◌}
use Rattle.switch.specs.Meaning.{Meaning}
use Rattle.law.specs.declared.call.Call.{Call}
use Rattle.law.specs.declared.answer.Answer.{Answer}
use Rattle.law.specs.States.{State}
use Rattle.law.specs.Calls.{Maker}
use Rattle.law.specs.History.{Moment, Made, Makes}
use Rattle.law.specs.Stories.{Story, Lawful, calls_of, answers_of, Handed, Performed}
use Rattle.law.proofs.Law.{every_list}

-- these calls, with these answers and one buffer, have led from the start to the state here
pub record Performing (M : Maker) (start : State) (asked : List Call) (given : List Answer) (before after : List ℕ) (here : State) : Type 0 where
  pub moments : List Moment
  pub story : (over : Meaning) → Made over start → Story M over start moments here
  pub called : calls_of moments ≡ asked
  pub answered : answers_of moments ≡ given
  pub buffer : Handed before moments after

pub performing_none : (M : Maker) (s : State) (before : List ℕ) → Performing M s [] [] before before s
performing_none M s before = record { moments = []; story = λ over made. record { made = made; linked = tt; end = refl }; called = refl; answered = refl; buffer = refl }

calls_push : (ms : List Moment) (m : Moment) → calls_of (ms ++ m ∷ []) ≡ calls_of ms ++ m.call ∷ []
calls_push [] m = refl
calls_push (x ∷ xs) m = ap (λ l. x.call ∷ l) (calls_push xs m)

answers_push : (ms : List Moment) (m : Moment) → answers_of (ms ++ m ∷ []) ≡ answers_of ms ++ m.answer ∷ []
answers_push [] m = refl
answers_push (x ∷ xs) m = ap (λ l. x.answer ∷ l) (answers_push xs m)

handed_push : (before after : List ℕ) (ms : List Moment) (m : Moment) → Handed before ms after → m.before ≡ after → Handed before (ms ++ m ∷ []) m.after
handed_push before after [] m h e = (e ∙ h, refl)
handed_push before after (x ∷ xs) m h e = (h.0, handed_push x.after after xs m h.1 e)

module _ {M : Maker} {start : State} {asked : List Call} {given : List Answer} {before after : List ℕ} {s : State} (w : Performing M start asked given before after s) where
  pub performing_more : {c : Call} {r : Answer} {next : List ℕ} {t : State} → Lawful M c r after next s t → Performing M start (asked ++ c ∷ []) (given ++ r ∷ []) before next t
  performing_more {c} {r} {next} {t} acts =
      let m : Moment = record { call = c; answer = r; runs = acts.runs; before = after; after = next; state = t } in
      record {
        moments = w.moments ++ m ∷ [];
        story = λ over made. (acts.next over start w.moments (w.story over made)).0;
        called = calls_push w.moments m ∙ ap (λ l. l ++ c ∷ []) w.called;
        answered = answers_push w.moments m ∙ ap (λ l. l ++ r ∷ []) w.answered;
        buffer = handed_push before after w.moments m w.buffer refl;
      }

  pub performing_all : (over : Meaning) → Makes M → Made over start → Performed M over asked given before after s
  performing_all over makes made = record {
    start = start;
    moments = w.moments;
    story = w.story over made;
    called = w.called;
    answered = w.answered;
    buffer = w.buffer;
    law = every_list M makes over start w.moments made (w.story over made).linked;
  }
