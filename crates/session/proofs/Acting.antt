-- Calls as a session shows them: declines, bookings and questions. Assumes nothing.
use Rattle.std.proofs.Common.{◌≡◌, ℕ, false, List, [], length, Some, None, Ok, Err, Option, Result, IsErrAnd, sym, refl, ap, ◌∙◌, subst, arith, Bor}
use Rattle.std.proofs.lemmas.Bool.{true≢false}
use Rattle.lines.specs.declared.Uplink.{Uplink}
use Rattle.lines.specs.declared.Downlink.{Downlink}
use Rattle.lines.specs.Matrix.{Matrix, plus}
use Rattle.lines.specs.Verdicts.{answered, told, or_same}
use Rattle.owed.specs.declared.decline.OwedDecline.{OwedDecline}
use Rattle.owed.specs.Calls.{line_decline, add_decline, take_decline, added, taken}
use Rattle.records.specs.Reservations.{reservations}
use Rattle.law.specs.declared.call.Call.{Call}
use Rattle.law.specs.declared.call.Call.TheVariants.{Post, Withdraw, Batch, Owed}
use Rattle.law.specs.declared.answer.Answer.{Answer}
use Rattle.law.specs.declared.answer.Answer.TheVariants.{Accepted, Declined}
use Rattle.law.specs.declared.decline.SessionDecline.{SessionDecline}
use Rattle.law.specs.declared.decline.SessionDecline.TheVariants.{Booking, NoPlan}
use Rattle.law.specs.States.{State, Plan, idle, planned, stands}
use Rattle.law.specs.Refusals.{if_planned, refusal, batch_decline}
use Rattle.law.specs.Calls.{Maker, does, reserved}
use Rattle.law.proofs.Said.{same_state, none_answered, some_answered, some_told, past_6, declined_so}
use Rattle.law.proofs.Bookings.{post_declined_so, posted_so, withdraw_declined_so, withdrawn_so}
use Rattle.session.specs.Sessions.{Acts, answer_of, accepted}

-- a call that begins where another state showed the same
pub from_same : {M : Maker} {c : Call} {a : Answer} {r s t : State} → r ≡ s → Acts M c a r t → Acts M c a s t
from_same {M} {c} {a} {r} {s} {t} e w = subst (λ (x : State). Acts M c a x t) e w

pub declines : {M : Maker} (c : Call) (d : SessionDecline) (s t : State) → ((size : ℕ) → refusal c size s ≡ Some d) → t ≡ s → Acts M c (Declined d) s t
declines c d s t h e = record { runs = []; does = λ buffer. declined_so c (h (length buffer)) refl e }

pub no_plan : (p : Plan) (next : Option SessionDecline) → stands p ≡ false → if_planned p next ≡ Some NoPlan
no_plan idle next e = refl
no_plan (planned place ms) next e = absurd (true≢false e)

-- the decline that a `?` hands on
pub passed : {A : Type 0} {M : Maker} {c : Call} {s t : State} (f : A → Answer) (r : Result A SessionDecline) (Q : SessionDecline → Type 0) → IsErrAnd r Q → ((d : SessionDecline) → Q d → Acts M c (Declined d) s t) → Acts M c (answer_of f r) s t
passed f (Ok x) Q h k = absurd h
passed f (Err d) Q h k = k d h

-- what an accepted or declined booking leaves
kept : {A E : Type 0} (o : Option E) (e : E) (x y : A) → o ≡ Some e → or_same o x y ≡ y
kept o e x y h = ap (λ o. or_same o x y) h

new : {A E : Type 0} (o : Option E) (x y : A) → o ≡ None → or_same o x y ≡ x
new o x y h = ap (λ o. or_same o x y) h

module _ {M : Maker} (i : Uplink) (j : Downlink) (u : ℕ) (s t : State) (free : s.plan ≡ idle) (lines : t.lines ≡ s.lines) (plan : t.plan ≡ s.plan) (switch : t.«switch» ≡ s.«switch») where
  module _ (units : (a b : ℕ) → t.owed a b ≡ or_same (add_decline s.lines s.owed i j u) (added s.owed i.0 j.0 u) s.owed a b) where
    pub posts : Ok tt ≡ answered (add_decline s.lines s.owed i j u) → Acts M (Post i j u) Accepted s t
    posts e =
        let h = none_answered _ e in
        record { runs = []; does = λ buffer. posted_so i j u buffer buffer s t free refl h lines (λ a b. units a b ∙ ap (λ (m : Matrix). m a b) (new _ _ _ h)) plan switch }

    pub posts_not : (d : OwedDecline) → Err d ≡ answered (add_decline s.lines s.owed i j u) → (x : SessionDecline) → x ≡ Booking d → Acts M (Post i j u) (Declined x) s t
    posts_not d e x x-is =
        let h = some_answered _ d e in
        subst (λ (y : SessionDecline). Acts M (Post i j u) (Declined y) s t) (sym x-is)
        (record { runs = []; does = λ buffer. post_declined_so i j u buffer buffer s t free refl d h (same_state s t lines (λ a b. units a b ∙ ap (λ (m : Matrix). m a b) (kept _ d _ _ h)) plan switch) })

  module _ (units : (a b : ℕ) → t.owed a b ≡ or_same (take_decline s.lines s.owed i j u) (taken s.owed i.0 j.0 u) s.owed a b) where
    pub withdraws : Ok tt ≡ answered (take_decline s.lines s.owed i j u) → Acts M (Withdraw i j u) Accepted s t
    withdraws e =
        let h = none_answered _ e in
        record { runs = []; does = λ buffer. withdrawn_so i j u buffer buffer s t free refl h lines (λ a b. units a b ∙ ap (λ (m : Matrix). m a b) (new _ _ _ h)) plan switch }

    pub withdraws_not : (d : OwedDecline) → Err d ≡ answered (take_decline s.lines s.owed i j u) → (x : SessionDecline) → x ≡ Booking d → Acts M (Withdraw i j u) (Declined x) s t
    withdraws_not d e x x-is =
        let h = some_answered _ d e in
        subst (λ (y : SessionDecline). Acts M (Withdraw i j u) (Declined y) s t) (sym x-is)
        (record { runs = []; does = λ buffer. withdraw_declined_so i j u buffer buffer s t free refl d h (same_state s t lines (λ a b. units a b ∙ ap (λ (m : Matrix). m a b) (kept _ d _ _ h)) plan switch) })

module _ {M : Maker} (bytes : Bor (List ℕ)) (s t : State) (free : s.plan ≡ idle) (lines : t.lines ≡ s.lines) (plan : t.plan ≡ s.plan) (switch : t.«switch» ≡ s.«switch»)
    (units : (a b : ℕ) → t.owed a b ≡ or_same (batch_decline s.lines s.owed bytes.now) (plus s.owed (reserved (reservations bytes.now))) s.owed a b) where
  batches : Ok tt ≡ answered (batch_decline s.lines s.owed bytes.now) → Acts M (Batch bytes) Accepted s t
  batches e =
      let h = none_answered _ e in
      record {
        runs = [];
        does = λ buffer. does (past_6 s.plan _ free ∙ h) (record {
          answer = refl;
          runs = refl;
          buffer = refl;
          lines = lines;
          owed = λ a b. omega (arith, units a b ∙ ap (λ (m : Matrix). m a b) (new _ _ _ h));
          plan = plan;
          «switch» = switch;
        });
      }

  batches_not : (d : SessionDecline) → Err d ≡ answered (batch_decline s.lines s.owed bytes.now) → Acts M (Batch bytes) (Declined d) s t
  batches_not d e =
      let h = some_answered _ d e in
      declines (Batch bytes) d s t (λ size. past_6 s.plan _ free ∙ h) (same_state s t lines (λ a b. units a b ∙ ap (λ (m : Matrix). m a b) (kept _ d _ _ h)) plan switch)

  pub batches_so : (r : Result Unit SessionDecline) → r ≡ answered (batch_decline s.lines s.owed bytes.now) → Acts M (Batch bytes) (accepted r) s t
  batches_so (Ok x) e = batches e
  batches_so (Err d) e = batches_not d e

pub asks_not : {M : Maker} (i : Uplink) (j : Downlink) (s : State) (u : ℕ) (d : OwedDecline) → Err d ≡ told (line_decline s.lines i j) u → (x : SessionDecline) → x ≡ Booking d → Acts M (Owed i j) (Declined x) s s
asks_not i j s u d e x x-is = declines (Owed i j) x s s (λ size. rw (some_told _ u d e, x-is)) refl
