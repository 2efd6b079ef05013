-- Posted units are withdrawn, carried or still owed. Assumes nothing.
use Rattle.std.proofs.Common.{◌≡◌, ℕ, ◌+◌, ◌≤◌, List, [], ◌∷◌, ◌++◌, sym, refl, ap, subst, arith}
use Rattle.lines.specs.Matrix.{Matrix, nothing}
use Rattle.switch.specs.Meaning.{Meaning}
use Rattle.law.specs.declared.call.Call.{Call}
use Rattle.law.specs.declared.call.Call.TheVariants.{Post, Withdraw, Batch, Plan, Step, Run, Drop, Owed, Busiest, ModesLeft, LengthLeft, Write}
use Rattle.law.specs.declared.answer.Answer.{Answer}
use Rattle.law.specs.declared.answer.Answer.TheVariants.{Accepted, Planned, Stepped, Ran, Units, Wrote, Declined}
use Rattle.law.specs.States.{State}
use Rattle.law.specs.Runs.{ModeRun, Chain, last}
use Rattle.law.specs.Calls.{Maker, Books, Yields, Does, does, does_not, wants_memory}
use Rattle.law.specs.History.{Moment, ends, Linked, brings, takes, if_accepted, posted, withdrawn, Made, Balanced}

-- from s to t the switch has carried no less, and the ledger has these entries
record Entered (more less : Matrix) (s t : State) : Type 0 where
  risen : (a b : ℕ) → s.switch.carried a b ≤ t.switch.carried a b
  entry : (a b : ℕ) → t.switch.carried a b + t.owed a b + less a b ≡ s.switch.carried a b + s.owed a b + more a b

-- a call that posts and withdraws nothing
abbrev Kept : State → State → Type 0
Kept s t = Entered nothing nothing s t

still : (s t : State) (more less : Matrix) → t.switch ≡ s.switch → ((a b : ℕ) → t.owed a b + less a b ≡ s.owed a b + more a b) → Entered more less s t
still s t more less e o = record {
  risen = λ a b. omega (arith, ap (λ (m : Meaning). m.carried a b) e);
  entry = λ a b. omega (arith, ap (λ (m : Meaning). m.carried a b) e, o a b);
}

chained : (s : State) (rs : List ModeRun) → Chain s rs → Kept s (last s rs)
chained s [] h = still s s _ _ refl (λ a b. refl)
chained s (r ∷ rs) h =
    let w = chained r.after rs h.1 in
    let up : (a b : ℕ) → r.after.switch.carried a b ≡ s.switch.carried a b + _ = λ a b. ap (λ (m : Meaning). m.carried a b) h.0.switch in
    record {
      risen = λ a b. omega (arith, w.risen a b, up a b);
      entry = λ a b. omega (arith, w.entry a b, up a b, h.0.owed a b);
    }

at_end : (s t u : State) → t ≡ u → Kept s u → Kept s t
at_end s t u e k = subst (λ (x : State). Kept s x) (sym e) k

same : (s t : State) → t ≡ s → Kept s t
same s t e = at_end s t s e (still s s _ _ refl (λ a b. refl))

-- a plan that is set or ended
replanned : (s t u : State) → t ≡ u → u.switch ≡ s.switch → u.owed ≡ s.owed → Kept s t
replanned s t u e switch owed = at_end s t u e (still s u _ _ switch (λ a b. ap (λ (m : Matrix). m a b + 0) owed))

-- no answer accepts anything of a call that brings nothing
none_accepted : (r : Answer) (a b : ℕ) → if_accepted r nothing a b ≡ 0
none_accepted Accepted a b = refl
none_accepted (Planned x) a b = refl
none_accepted (Stepped x) a b = refl
none_accepted (Ran x) a b = refl
none_accepted (Units u) a b = refl
none_accepted (Wrote k) a b = refl
none_accepted (Declined d) a b = refl

plain : (r : Answer) (s t : State) → Kept s t → Entered (if_accepted r nothing) (if_accepted r nothing) s t
plain r s t k = record { risen = k.risen; entry = λ a b. omega (arith, k.entry a b, none_accepted r a b) }

booked : {more less : Matrix} {r : Answer} {rs : List ModeRun} {before after : List ℕ} {s t : State} → Books more less r rs before after s t → Entered (if_accepted r more) (if_accepted r less) s t
booked {more} {less} {s = s} {t = t} h =
    subst (λ (x : Answer). Entered (if_accepted x more) (if_accepted x less) s t) (sym h.answer) (still s t more less h.switch h.owed)

declined : (c : Call) (r : Answer) (s t : State) → (if_accepted r (brings c) ≡ nothing) → (if_accepted r (takes c) ≡ nothing) → t ≡ s → Entered (if_accepted r (brings c)) (if_accepted r (takes c)) s t
declined c r s t b w e = subst (λ (x : Matrix). Entered x (if_accepted r (takes c)) s t) (sym b) (subst (λ (x : Matrix). Entered nothing x s t) (sym w) (same s t e))

module _ (M : Maker) (r : Answer) (rs : List ModeRun) (before after : List ℕ) (s t : State) where
  yielded : (c : Call) → Yields M c r rs before after s t → Entered (if_accepted r (brings c)) (if_accepted r (takes c)) s t
  yielded (Post i j u) h = booked h
  yielded (Withdraw i j u) h = booked h
  yielded (Batch bytes) h = booked h
  yielded Plan h = plain r s t (replanned s t _ h.state refl refl)
  yielded Step h = plain r s t (at_end s t _ h.state (chained s (h.run ∷ []) (h.advanced, tt)))
  yielded (Run b) h = plain r s t (at_end s t _ h.state (chained s rs h.chain))
  yielded Drop h = plain r s t (replanned s t _ h.state refl refl)
  yielded (Owed i j) h = plain r s t (same s t h.still.state)
  yielded Busiest h = plain r s t (same s t h.still.state)
  yielded ModesLeft h = plain r s t (same s t h.still.state)
  yielded LengthLeft h = plain r s t (same s t h.still.state)
  yielded Write h = plain r s t (same s t h.state)

one : {M : Maker} {c : Call} {r : Answer} {rs : List ModeRun} {before after : List ℕ} {s t : State} → Does M c r rs before after s t → Entered (if_accepted r (brings c)) (if_accepted r (takes c)) s t
one {M} {c} {r} {rs} {before} {after} {s} {t} (does _ h) = yielded M r rs before after s t c h
one {c = c} {r} {s = s} {t = t} (does_not d _ e k) = declined c r s t (ap (λ (x : Answer). if_accepted x (brings c)) e) (ap (λ (x : Answer). if_accepted x (takes c)) e) k.state
one {c = c} {r} {s = s} {t = t} (wants_memory _ _ e k) = declined c r s t (ap (λ (x : Answer). if_accepted x (brings c)) e) (ap (λ (x : Answer). if_accepted x (takes c)) e) k.state

many : (M : Maker) (s : State) (ms rest : List Moment) → Linked M s (ms ++ rest) → Entered (posted ms) (withdrawn ms) s (ends s ms)
many M s [] rest h = still s s _ _ refl (λ a b. refl)
many M s (m ∷ ms) rest h =
    let v = one h.0 in
    let w = many M m.state ms rest h.1 in
    record {
      risen = λ a b. omega (arith, v.risen a b, w.risen a b);
      entry = λ a b. omega (arith, v.entry a b, w.entry a b);
    }

pub balance : (M : Maker) (over : Meaning) (s : State) (past rest : List Moment) → Made over s → Linked M s (past ++ rest) → Balanced over past (ends s past)
balance M over s past rest made h =
    let w = many M s past rest h in
    let o : (a b : ℕ) → s.switch.carried a b ≡ over.carried a b = λ a b. ap (λ (m : Meaning). m.carried a b) made.switch in
    record {
      risen = λ a b. omega (arith, w.risen a b, o a b);
      balance = λ a b. omega (arith, w.entry a b, made.owed a b, o a b);
    }
