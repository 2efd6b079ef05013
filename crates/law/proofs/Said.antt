-- How a session shows what a call did: declines, and what the tests of the code say of them. Assumes nothing.
use Rattle.std.proofs.Common.{◌≡◌, ℕ, List, [], length, Some, None, Ok, Err, Option, Result, MatchResult, IsErrAnd, sym, refl, ap, ◌∙◌, subst, arith}
use Rattle.lines.specs.Verdicts.{answered, told}
use Rattle.schedule.specs.declared.Mode.{Mode}
use Rattle.law.specs.declared.call.Call.{Call}
use Rattle.law.specs.declared.answer.Answer.TheVariants.{Declined}
use Rattle.law.specs.declared.decline.SessionDecline.{SessionDecline}
use Rattle.law.specs.declared.decline.SessionDecline.TheVariants.{NoPlan}
use Rattle.law.specs.States.{State, Plan as Standing, idle, planned}
use Rattle.law.specs.Refusals.{unless_planned, if_planned, refusal}
use Rattle.law.specs.Calls.{Maker, Does, does_not}

-- the same state, part by part
pub same_state : (s t : State) → t.lines ≡ s.lines → ((a b : ℕ) → t.owed a b ≡ s.owed a b) → t.plan ≡ s.plan → t.switch ≡ s.switch → t ≡ s
same_state s t lines owed plan switch i = record { lines = lines i; owed = λ a b. owed a b i; plan = plan i; switch = switch i }

-- what a call that declines says of its reason
pub none_answered : {E : Type 0} (o : Option E) → Ok tt ≡ answered o → o ≡ None
none_answered None e = refl
none_answered (Some x) e = cc

pub some_answered : {E : Type 0} (o : Option E) (x : E) → Err x ≡ answered o → o ≡ Some x
some_answered None x e = cc
some_answered (Some y) x e = cc

pub none_told : {A E : Type 0} (o : Option E) (a b : A) → Ok b ≡ told o a → o ≡ None
none_told None a b e = refl
none_told (Some x) a b e = cc

pub value_told : {A E : Type 0} (o : Option E) (a b : A) → Ok b ≡ told o a → b ≡ a
value_told None a b e = cc
value_told (Some x) a b e = cc

pub some_told : {A E : Type 0} (o : Option E) (a : A) (x : E) → Err x ≡ told o a → o ≡ Some x
some_told None a x e = cc
some_told (Some y) a x e = cc

-- a result whose error was mapped
pub mapped_ok : {A D E : Type 0} (P : D → E → Type 0) (r : Result A D) (q : Result A E) (x : A) → MatchResult r (λ y. q ≡ Ok y) (λ e. IsErrAnd q (P e)) → q ≡ Ok x → r ≡ Ok x
mapped_ok {A} {D} {E} P (Ok y) q x h e = let z : ◌≡◌ {A = Result A E} (Ok y) (Ok x) = sym h ∙ e in cc
mapped_ok {A} {D} {E} P (Err d) q x h e = absurd (subst (λ (z : Result A E). IsErrAnd z (P d)) e h)

pub mapped_err : {A D E : Type 0} (P : D → E → Type 0) (r : Result A D) (q : Result A E) (y : E) → MatchResult r (λ x. q ≡ Ok x) (λ e. IsErrAnd q (P e)) → q ≡ Err y → (d : D) × (r ≡ Err d) × P d y
mapped_err {A} {D} {E} P (Ok x) q y h e = let z : ◌≡◌ {A = ℕ} 0 1 = cc in absurd (omega arith)
mapped_err {A} {D} {E} P (Err d) q y h e = (d, refl, subst (λ (z : Result A E). IsErrAnd z (P d)) e h)

-- 6 and 9, and the reasons after them
module _ (p : Standing) (next : Option SessionDecline) where
  pub past_6 : p ≡ idle → unless_planned p next ≡ next
  past_6 e = ap (λ (q : Standing). unless_planned q next) e

  pub says_9 : p ≡ idle → if_planned p next ≡ Some NoPlan
  says_9 e = ap (λ (q : Standing). if_planned q next) e

  pub past_9 : {k : ℕ} {ms : List Mode} → p ≡ planned k ms → if_planned p next ≡ next
  past_9 e = ap (λ (q : Standing). if_planned q next) e

-- a call that is declined
pub declined_so : {M : Maker} (c : Call) {d : SessionDecline} {before after : List ℕ} {s t : State} → refusal c (length before) s ≡ Some d → after ≡ before → t ≡ s → Does M c (Declined d) [] before after s t
declined_so c {d} h b e = does_not d h refl (record { runs = refl; buffer = b; state = e })
