-- Posts and withdrawals, as a session shows them. Assumes nothing.
use Rattle.std.proofs.Common.{◌≡◌, ℕ, ◌≤◌, List, [], Some, None, refl, ap, ◌∙◌, inl, inr, arith}
use Rattle.std.proofs.lemmas.Bool.{cases_eq}
use Rattle.std.proofs.lemmas.Bool.Decides.{nat_tests}
use Rattle.lines.specs.declared.Uplink.{Uplink}
use Rattle.lines.specs.declared.Downlink.{Downlink}
use Rattle.lines.specs.Matrix.{Matrix, only}
use Rattle.owed.specs.declared.decline.OwedDecline.{OwedDecline}
use Rattle.owed.specs.Calls.{add_decline, take_decline, added, taken}
use Rattle.law.specs.declared.call.Call.TheVariants.{Post, Withdraw}
use Rattle.law.specs.declared.answer.Answer.TheVariants.{Accepted, Declined}
use Rattle.law.specs.declared.decline.SessionDecline.TheVariants.{Booking}
use Rattle.law.specs.States.{State, idle}
use Rattle.law.specs.Refusals.{booking}
use Rattle.law.specs.Calls.{Maker, Does, does}
use Rattle.law.proofs.Said.{past_6, declined_so}

-- a post on a session without a plan: what the owed matrix says, the session says
module _ {M : Maker} (i : Uplink) (j : Downlink) (u : ℕ) (before after : List ℕ) (s t : State) (free : s.plan ≡ idle) (buffer : after ≡ before) where
  pub post_declined_so : (e : OwedDecline) → add_decline s.lines s.owed i j u ≡ Some e → t ≡ s → Does M (Post i j u) (Declined (Booking e)) [] before after s t
  post_declined_so e h same = declined_so (Post i j u) (past_6 s.plan _ free ∙ ap booking h) buffer same

  pub posted_so : add_decline s.lines s.owed i j u ≡ None → t.lines ≡ s.lines → ((a b : ℕ) → t.owed a b ≡ added s.owed i.0 j.0 u a b) → t.plan ≡ s.plan → t.switch ≡ s.switch → Does M (Post i j u) Accepted [] before after s t
  posted_so h lines owed plan switch =
      does (past_6 s.plan _ free ∙ ap booking h) (record { answer = refl; runs = refl; buffer = buffer; lines = lines; owed = λ a b. omega (arith, owed a b); plan = plan; switch = switch })

  pub withdraw_declined_so : (e : OwedDecline) → take_decline s.lines s.owed i j u ≡ Some e → t ≡ s → Does M (Withdraw i j u) (Declined (Booking e)) [] before after s t
  withdraw_declined_so e h same = declined_so (Withdraw i j u) (past_6 s.plan _ free ∙ ap booking h) buffer same

-- an accepted withdrawal finds its units
enough : (n : ℕ) (m : Matrix) (i : Uplink) (j : Downlink) (u : ℕ) → take_decline n m i j u ≡ None → u ≤ m i.0 j.0
enough n m i j u h = grind (arith, nat_tests, h)

only_within : (m : Matrix) (i j u : ℕ) → u ≤ m i j → (a b : ℕ) → only i j u a b ≤ m a b
only_within m i j u h a b =
    elim (cases_eq a i) [
      | inl e ↦ elim (cases_eq b j) [
        | inl f ↦ (let g : m a b ≡ m i j = ap (λ x. m x b) e ∙ ap (m i) f in grind (arith, nat_tests, g, h, e, f))
        | inr f ↦ grind (arith, nat_tests, f)
      ]
      | inr e ↦ grind (arith, nat_tests, e)
    ]

module _ {M : Maker} (i : Uplink) (j : Downlink) (u : ℕ) (before after : List ℕ) (s t : State) (free : s.plan ≡ idle) (buffer : after ≡ before) where
  pub withdrawn_so : take_decline s.lines s.owed i j u ≡ None → t.lines ≡ s.lines → ((a b : ℕ) → t.owed a b ≡ taken s.owed i.0 j.0 u a b) → t.plan ≡ s.plan → t.switch ≡ s.switch → Does M (Withdraw i j u) Accepted [] before after s t
  withdrawn_so h lines owed plan switch =
      does (past_6 s.plan _ free ∙ ap booking h) (record {
        answer = refl;
        runs = refl;
        buffer = buffer;
        lines = lines;
        owed = λ a b. omega (arith, owed a b, only_within s.owed i.0 j.0 u (enough s.lines s.owed i j u h) a b);
        plan = plan;
        switch = switch;
      })
