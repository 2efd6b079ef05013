-- The modes left, written as records. Assumes nothing.
use Rattle.std.proofs.Common.{◌≡◌, ℕ, ◌*◌, ◌<◌, ◌≤◌, Bool, true, false, cond, eqb, List, [], ◌++◌, length, drop, Some, None, Ok, Err, Option, Result, IsErrAnd, sym, refl, ap, ◌∙◌, subst, inl, inr, arith}
use Rattle.std.proofs.lemmas.Bool.{cases_lt, lt-ltb, le-ltb}
use Rattle.lines.specs.Verdicts.{told, or_same}
use Rattle.schedule.specs.declared.Mode.{Mode}
use Rattle.planning.specs.declared.plan.Plan.{Plan}
use Rattle.planning.specs.Plans.{plan_lines, plan_modes}
use Rattle.plan_files.specs.declared.decline.WriteDecline.{WriteDecline}
use Rattle.plan_files.specs.Declines.{write_decline}
use Rattle.plan_files.specs.Encoding.{encoded}
use Rattle.plan_files.specs.declared.decline.WriteDecline.TheVariants.{ShortBuffer as Short}
use Rattle.owed.specs.Calls.{lines_of}
use Rattle.switch.specs.Meaning.{Meaning}
use Rattle.law.specs.declared.call.Call.TheVariants.{Write}
use Rattle.law.specs.declared.answer.Answer.TheVariants.{Wrote, Declined}
use Rattle.law.specs.declared.decline.SessionDecline.{SessionDecline}
use Rattle.law.specs.declared.decline.SessionDecline.TheVariants.{NoPlan, ShortBuffer}
use Rattle.law.specs.States.{idle, planned, stands}
use Rattle.law.specs.Calls.{Maker, Does}
use Rattle.law.proofs.Said.{none_told, value_told, some_told, declined_so}
use Rattle.law.proofs.Answering.{short_buffer_so, wrote_so}
use Rattle.session.specs.declared.state.State.{State}
use Rattle.session.specs.declared.state.State.TheVariants.{Planned}
use Rattle.session.specs.declared.state.Session.{Session}
use Rattle.session.specs.Standing.{standing_on}
use Rattle.session.specs.Sessions.{state_of, answer_of}
use Rattle.session.proofs.Acting.{no_plan}
use Rattle.session.proofs.Advances.{good_of}

fits : (many room : ℕ) → write_decline many room ≡ None → 52 * many ≤ room
fits many room h =
    elim (cases_lt room (52 * many)) [
      | inl l ↦ let e : cond true (Some Short) None ≡ None = subst (λ (b : Bool). cond b (Some Short) None ≡ None) (lt-ltb room (52 * many) l) h in let z : ◌≡◌ {A = ℕ} 0 1 = cc in absurd (omega arith)
      | inr l ↦ l
    ]

too_many : (many room : ℕ) (d : WriteDecline) → write_decline many room ≡ Some d → room < 52 * many
too_many many room d h =
    elim (cases_lt room (52 * many)) [
      | inl l ↦ l
      | inr l ↦ let e : cond false (Some Short) None ≡ Some d = subst (λ (b : Bool). cond b (Some Short) None ≡ Some d) (le-ltb room (52 * many) l) h in let z : ◌≡◌ {A = ℕ} 0 1 = cc in absurd (omega arith)
    ]

-- without a plan nothing is written
pub writes_idle : {S E : Type 0} {M : Maker} (meaning : S → Meaning) (s : Session S E) (out : List ℕ) → stands (state_of meaning s).plan ≡ false → Does M Write (Declined NoPlan) [] out out (state_of meaning s) (state_of meaning s)
writes_idle meaning s out off = declined_so Write (no_plan (state_of meaning s).plan _ off) refl refl

pub none_stands : (n l : ℕ) (st x : State) → st ≡ x → stands (standing_on n l x) ≡ false → stands (standing_on n l st) ≡ false
none_stands n l st x e h = ap (λ (y : State). stands (standing_on n l y)) e ∙ h

-- the modes left were given to be written
module _ {S E : Type 0} (meaning : S → Meaning) (s : Session S E) (p : Plan) (place left : ℕ) (is : s.state ≡ Planned p place left) (agrees : eqb (meaning s.«switch»).lines (lines_of s.owed) ≡ true)
    (n : ℕ) (n-is : n ≡ plan_lines p) (given : List Mode) (given_is : given ≡ drop place (plan_modes p)) (before after : List ℕ)
    (out : after ≡ or_same (write_decline (length given) (length before)) (encoded n given ++ drop (52 * length given) before) before) where
  abbrev ms : List Mode
  ms = drop place (plan_modes p)

  stood : (state_of meaning s).plan ≡ planned place ms
  stood = ap (standing_on (meaning s.«switch»).lines (lines_of s.owed)) is ∙ ap (λ (b : Bool). cond b (planned place ms) idle) agrees

  lines : plan_lines p ≡ lines_of s.owed
  lines = (good_of s (Planned p place left) is).lines

  bytes : encoded n given ≡ encoded (lines_of s.owed) ms
  bytes = ap (λ (k : ℕ). encoded k given) (n-is ∙ lines) ∙ ap (encoded (lines_of s.owed)) given_is

  pub writes : {M : Maker} (used : ℕ) → Ok used ≡ told (write_decline (length given) (length before)) (52 * length given) → Does M Write (Wrote used) [] before after (state_of meaning s) (state_of meaning s)
  writes used e =
      let free = none_told _ (52 * length given) used e in
      let count : used ≡ 52 * length given = value_told _ (52 * length given) used e in
      let same : length given ≡ length ms = ap length given_is in
      wrote_so before after (state_of meaning s) (state_of meaning s) place ms stood refl used
      (omega (arith, fits (length given) (length before) free, same))
      (omega (arith, count, same))
      (out ∙ ap (λ (o : Option WriteDecline). or_same o (encoded n given ++ drop (52 * length given) before) before) free
      ∙ ap (λ (l : List ℕ). l ++ drop (52 * length given) before) bytes ∙ ap (λ (k : ℕ). encoded (lines_of s.owed) ms ++ drop k before) (sym count))

  pub writes_not : {M : Maker} (d : WriteDecline) → Err d ≡ told (write_decline (length given) (length before)) (52 * length given) →
      (r : Result ℕ SessionDecline) (Q : SessionDecline → Type 0) → IsErrAnd r Q → ((x : SessionDecline) → Q x → x ≡ ShortBuffer) →
      Does M Write (answer_of Wrote r) [] before after (state_of meaning s) (state_of meaning s)
  writes_not d e (Ok x) Q q k = absurd q
  writes_not {M} d e (Err x) Q q k =
      let h : write_decline (length given) (length before) ≡ Some d = some_told _ (52 * length given) d e in
      let same : length given ≡ length ms = ap length given_is in
      subst (λ (y : SessionDecline). Does M Write (Declined y) [] before after (state_of meaning s) (state_of meaning s)) (sym (k x q))
      (short_buffer_so before after (state_of meaning s) (state_of meaning s) place ms stood refl
      (omega (arith, too_many (length given) (length before) d h, same))
      (out ∙ ap (λ (o : Option WriteDecline). or_same o (encoded n given ++ drop (52 * length given) before) before) h))
