-- Calls that are given, one or many. Assumes nothing.
use Rattle.std.proofs.Common.{◌≡◌, ℕ, ◌+◌, ◌<◌, List, [], ◌∷◌, ◌++◌, length, get_or, take, drop, set, sym, ap, ◌∙◌, subst, arith, Bor, Ok, Err, Result, MatchResult}
use Rattle.std.proofs.lemmas.List.{take_more, take_more_set, drop-drop, drop-set-lt}
use Rattle.matching.specs.Answers.{May, AllRight}
use Rattle.planning.proofs.Serving.{serves, tight}
use Rattle.law.specs.declared.call.Call.{Call}
use Rattle.law.specs.declared.call.Call.TheVariants.{Batch, Write}
use Rattle.law.specs.declared.answer.Answer.{Answer}
use Rattle.law.specs.declared.answer.Answer.TheVariants.{Declined}
use Rattle.law.specs.declared.decline.SessionDecline.{SessionDecline}
use Rattle.law.specs.States.{State}
use Rattle.law.specs.Calls.{Maker, Does}
use Rattle.law.specs.History.{Makes}
use Rattle.law.specs.Stories.{Lawful}
use Rattle.law.proofs.Batches.{same_bytes}
use Rattle.law.proofs.Law.{lawful}
use Rattle.law.proofs.Performing.{Performing, performing_more}
use Rattle.session.specs.Sessions.{PlannedBy, Acts, answer_of}
use Rattle.ledger.specs.Acted.{Acted}

-- the plans of an engine's matchings serve what is owed, and are as long as the busiest line
pub makes : (may : May) → AllRight may → Makes (PlannedBy may)
makes may right = record {
  serves = λ n owed ms w. serves may right n owed ms (record { some = w.some_line; few = w.few_lines; owes = w.owes; short = w.short }) w.made;
  exact = λ n owed ms w. tight may right n owed ms (record { some = w.some_line; few = w.few_lines; owes = w.owes; short = w.short }) w.made;
}

-- an answer that was made of a result
pub told_as : {A : Type 0} (f : A → Answer) (r : Result A SessionDecline) {a : Answer} → MatchResult r (λ x. a ≡ f x) (λ d. a ≡ Declined d) → a ≡ answer_of f r
told_as f (Ok x) e = e
told_as f (Err d) e = e

-- a call of the session, given with a buffer that it leaves alone
pub acted : {M : Maker} {c d : Call} {r a : Answer} {s t : State} (buffer : List ℕ) → d ≡ c → a ≡ r → Acts M c r s t → Acted M d a buffer buffer s t
acted {M} {c} {d} {r} {a} {s} {t} buffer e told w = subst (λ (x : Answer). Acted M d x buffer buffer s t) (sym told) (subst (λ (x : Call). Acted M x r buffer buffer s t) (sym e) (record { runs = w.runs; does = w.does buffer }))

pub batched : {M : Maker} {d : Call} {r a : Answer} {s t : State} (x y : Bor (List ℕ)) (buffer : List ℕ) → d ≡ Batch y → x.now ≡ y.now → a ≡ r → Acts M (Batch x) r s t → Acted M d a buffer buffer s t
batched {M} {d} {r} {a} {s} {t} x y buffer e same told w = acted buffer e told (record { runs = w.runs; does = λ b. same_bytes x y same (w.does b) })

pub wrote : {M : Maker} {d : Call} {r a : Answer} {before after : List ℕ} {s t : State} → d ≡ Write → a ≡ r → Does M Write r [] before after s t → Acted M d a before after s t
wrote {M} {d} {r} {a} {before} {after} {s} {t} e told w = subst (λ (x : Answer). Acted M d x before after s t) (sym told) (subst (λ (c : Call). Acted M c r before after s t) (sym e) (record { runs = []; does = w }))

pub acts_lawfully : {may : May} {c : Call} {r : Answer} {before after : List ℕ} {s t : State} → AllRight may → Acted (PlannedBy may) c r before after s t → Lawful (PlannedBy may) c r before after s t
acts_lawfully {may} right w = lawful (PlannedBy may) (makes may right) w.does

-- one call more of those performed
module _ (calls : List Call) (answers : List Answer) (i : ℕ) where
  pub performs_more : {M : Maker} {start s : State} {before after : List ℕ} → Performing M start (take i calls) (take i answers) before after s → (c : Call) (d : Call) (r : Answer) (next : List ℕ) (t : State) → i < length calls → i < length answers → c ≡ get_or calls i d → Lawful M c r after next s t →
      Performing M start (take (i + 1) calls) (take (i + 1) (set answers i r)) before next t
  performs_more {M} {start} {s} {before} {after} w c d r next t inside fits read acts =
      let asked : take i calls ++ c ∷ [] ≡ take (i + 1) calls = ap (λ (x : Call). take i calls ++ x ∷ []) read ∙ sym (take_more calls i d inside) in
      let given : take i answers ++ r ∷ [] ≡ take (i + 1) (set answers i r) = sym (take_more_set answers i r fits) in
      subst (λ (l : List Call). Performing M start l (take (i + 1) (set answers i r)) before next t) asked
      (subst (λ (l : List Answer). Performing M start (take i calls ++ c ∷ []) l before next t) given (performing_more w acts))

  pub keeps_more : (first : List Answer) → drop i answers ≡ drop i first → (r : Answer) → drop (i + 1) (set answers i r) ≡ drop (i + 1) first
  keeps_more first kept r = drop-set-lt (i + 1) answers i r (omega arith) ∙ sym (drop-drop 1 i answers) ∙ ap (drop 1) kept ∙ drop-drop 1 i first
