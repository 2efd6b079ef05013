-- A call has one answer and one effect, but for what the switch chooses and the plan that is made. Assumes nothing.
use Rattle.std.proofs.Common.{◌≡◌, ℕ, suc, ◌<◌, true, cond, eqb, ltb, ◌⊎◌, List, [], ◌∷◌, ◌++◌, length, Some, None, Option, sym, refl, ap, ◌∙◌, subst, inl, inr, arith, length-append}
use Rattle.std.proofs.lemmas.Bool.Decides.{nat_tests}
use Rattle.lines.specs.Matrix.{Matrix}
use Rattle.schedule.specs.declared.Mode.{Mode}
use Rattle.schedule.specs.Modes.{span}
use Rattle.switch.specs.declared.Outcome.{Outcome}
use Rattle.switch.specs.Meaning.{Meaning}
use Rattle.steps.specs.WholeMode.{carries}
use Rattle.law.specs.declared.call.Call.{Call}
use Rattle.law.specs.declared.call.Call.TheVariants.{Post, Withdraw, Batch, Plan, Step, Run, Drop, Owed, Busiest, ModesLeft, LengthLeft, Write}
use Rattle.runs.specs.declared.Cause.{Cause}
use Rattle.runs.specs.declared.Cause.TheVariants.{End, Short, Stop, Budget}
use Rattle.law.specs.declared.answer.Answer.{Answer}
use Rattle.law.specs.declared.answer.Answer.TheVariants.{Planned, Stepped, Ran, Declined}
use Rattle.law.specs.declared.decline.SessionDecline.{SessionDecline}
use Rattle.law.specs.States.{State, Plan as Standing, idle, planned, stands, onward, with_plan}
use Rattle.law.specs.Runs.{ModeRun, Advanced, Chain, last, carried_by, missed, short, shortfall}
use Rattle.law.specs.Refusals.{of_mode, next_decline, refusal}
use Rattle.law.specs.Calls.{Maker, Still, Books, Plans, Steps, Whole, LastShort, why, Continues, Tells, Yields, Does, does, does_not, wants_memory}
use Rattle.law.specs.Single.{Alike, Agree, Settled, OneAnswer}

never : {A B : Type 0} (o : Option B) (x : B) → o ≡ None → o ≡ Some x → A
never o x e f = let z : ◌≡◌ {A = ℕ} 0 1 = cc in absurd (omega arith)

-- a mode that was run was not declined
pub next_free : (s : State) (r : ModeRun) → Advanced s r → next_decline s.plan s.switch ≡ None
next_free s r w = ap (λ (p : Standing). next_decline p s.switch) w.stood ∙ ap (of_mode w.place) w.starts

alike_same : (t u : State) → t ≡ u → Alike t u
alike_same t u e = subst (λ (x : State). Alike t x) e (record { lines = refl; owed = λ a b. refl; plan = refl; switch = refl })

alike_back : (t u : State) → Alike t u → Alike u t
alike_back t u h = record { lines = sym h.lines; owed = λ a b. sym (h.owed a b); plan = sym h.plan; switch = sym h.switch }

agree_back : (rs qs : List ModeRun) → Agree rs qs → Agree qs rs
agree_back [] [] h = tt
agree_back [] (q ∷ qs) h = tt
agree_back (r ∷ rs) [] h = tt
agree_back (r ∷ rs) (q ∷ qs) h = (sym h.0, agree_back rs qs h.1)

-- the same mode is run from like states to like states
module _ (s t : State) (r q : ModeRun) (a : Alike s t) (v : Advanced s r) (w : Advanced t q) (e : r.outcomes ≡ q.outcomes) where
  same_place : v.place ≡ w.place
  same_place = let p = a.plan in let x = v.stood in let y = w.stood in cc

  same_mode : r.mode ≡ q.mode
  same_mode = let p = a.plan in let x = v.stood in let y = w.stood in cc

  same_rest : v.rest ≡ w.rest
  same_rest = let p = a.plan in let x = v.stood in let y = w.stood in cc

  same_switch : carries r.mode r.outcomes s.switch ≡ carries q.mode q.outcomes t.switch
  same_switch =
      ap (λ (m : Mode). carries m r.outcomes s.switch) same_mode
      ∙ ap (λ (os : List (Option Outcome)). carries q.mode os s.switch) e
      ∙ ap (λ (m : Meaning). carries q.mode q.outcomes m) a.switch

  alike_after : Alike r.after q.after
  alike_after = record {
    lines = v.lines ∙ a.lines ∙ sym w.lines;
    owed = λ x y. omega (arith, v.owed x y, w.owed x y, a.owed x y, ap (λ (os : List (Option Outcome)). carried_by os x y) e);
    plan = v.goes_on ∙ ap (λ (n : ℕ). onward n v.rest) same_place ∙ ap (onward w.place) same_rest ∙ sym w.goes_on;
    switch = v.switch ∙ same_switch ∙ sym w.switch;
  }

-- two lists of runs with the same choices end alike
record Both (s t : State) (rs qs : List ModeRun) : Type 0 where
  count : length rs ≡ length qs
  fallen : short rs ≡ short qs
  state : Alike (last s rs) (last t qs)

-- or one of them stops where the other goes on
record Cut (s t : State) (rs qs : List ModeRun) : Type 0 where
  front : List ModeRun
  next : ModeRun
  more : List ModeRun
  whole : qs ≡ front ++ next ∷ more
  count : length rs ≡ length front
  fallen : short rs ≡ short front
  state : Alike (last s rs) (last t front)
  goes : Advanced (last t front) next

both_more : (s t : State) (r q : ModeRun) (rs qs : List ModeRun) → r.outcomes ≡ q.outcomes → Both r.after q.after rs qs → Both s t (r ∷ rs) (q ∷ qs)
both_more s t r q rs qs e h = record { count = ap suc h.count; fallen = omega (arith, ap missed e, h.fallen); state = h.state }

cut_more : (s t : State) (r q : ModeRun) (rs qs : List ModeRun) → r.outcomes ≡ q.outcomes → Cut r.after q.after rs qs → Cut s t (r ∷ rs) (q ∷ qs)
cut_more s t r q rs qs e h = record {
  front = q ∷ h.front;
  next = h.next;
  more = h.more;
  whole = ap (λ l. q ∷ l) h.whole;
  count = ap suc h.count;
  fallen = omega (arith, ap missed e, h.fallen);
  state = h.state;
  goes = h.goes;
}

compared : (s t : State) (rs qs : List ModeRun) → Alike s t → Chain s rs → Chain t qs → Agree rs qs → Both s t rs qs ⊎ (Cut s t rs qs ⊎ Cut t s qs rs)
compared s t [] [] a v w e = inl (record { count = refl; fallen = refl; state = a })
compared s t [] (q ∷ qs) a v w e = inr (inl (record { front = []; next = q; more = qs; whole = refl; count = refl; fallen = refl; state = a; goes = w.0 }))
compared s t (r ∷ rs) [] a v w e = inr (inr (record { front = []; next = r; more = rs; whole = refl; count = refl; fallen = refl; state = alike_back s t a; goes = v.0 }))
compared s t (r ∷ rs) (q ∷ qs) a v w e =
    elim (compared r.after q.after rs qs (alike_after s t r q a v.0 w.0 e.0) v.1 w.1 e.1) [
      | inl h ↦ inl (both_more s t r q rs qs e.0 h)
      | inr h ↦ elim h [
        | inl k ↦ inr (inl (cut_more s t r q rs qs e.0 k))
        | inr k ↦ inr (inr (cut_more t s q r qs rs (sym e.0) k))
      ]
    ]

-- modes with others after them did not fall short
whole_before : (r : ModeRun) (rs : List ModeRun) (x : ModeRun) (xs : List ModeRun) → Whole r (rs ++ x ∷ xs) → missed r.outcomes ≡ 0
whole_before r [] x xs h = h
whole_before r (q ∷ qs) x xs h = h

front_whole : (front : List ModeRun) (x : ModeRun) (xs : List ModeRun) → LastShort (front ++ x ∷ xs) → short front ≡ 0
front_whole [] x xs h = refl
front_whole (r ∷ rs) x xs h = omega (arith, whole_before r rs x xs h.0, front_whole rs x xs h.1)

-- a run of modes that stops where it could go on
module _ (b : ℕ) (s : State) (r q : Answer) (rs qs : List ModeRun) (before found left : List ℕ) (t u : State) (v : Continues b r rs before found s t) (w : Continues b q qs before left s u) where
  never_cut : {A : Type 0} → Cut s s rs qs → A
  never_cut c =
      let end : State = last s c.front in
      let fits : length rs < b = omega (arith, w.few, c.count, ap length c.whole, length-append c.front (c.next ∷ c.more)) in
      let none : short rs ≡ 0 = c.fallen ∙ front_whole c.front c.next c.more (subst LastShort c.whole w.one_short) in
      let plan-is : t.plan ≡ end.plan = ap (λ (x : State). x.plan) v.state ∙ c.state.plan in
      let switch-is : t.switch ≡ end.switch = ap (λ (x : State). x.switch) v.state ∙ c.state.switch in
      let on : stands t.plan ≡ true = ap stands (plan-is ∙ c.goes.stood) in
      let stop : why b rs t ≡ Stop = grind (arith, nat_tests, on, none, fits) in
      let free : next_decline t.plan t.switch ≡ None =
      ap (λ (p : Standing). next_decline p t.switch) plan-is ∙ ap (λ (m : Meaning). next_decline end.plan m) switch-is ∙ next_free end c.next c.goes in
      let d = v.stopped stop in
      never (next_decline t.plan t.switch) d.0 free d.1

abbrev cause_of : ℕ → ℕ → ℕ → Standing → Cause
cause_of b k x p = cond (stands p) (cond (eqb x 0) (cond (ltb k b) Stop Budget) Short) End

one_run : (b : ℕ) (s : State) (r q : Answer) (rs qs : List ModeRun) (before found left : List ℕ) (t u : State) → Continues b r rs before found s t → Continues b q qs before left s u → Agree rs qs → Settled r q found left t u
one_run b s r q rs qs before found left t u v w e =
    elim (compared s s rs qs (alike_same s s refl) v.chain w.chain e) [
      | inl h ↦ settled h
      | inr h ↦ elim h [
        | inl c ↦ never_cut b s r q rs qs before found left t u v w c
        | inr c ↦ never_cut b s q r qs rs before left found u t w v c
      ]
    ]
  where
    settled : Both s s rs qs → Settled r q found left t u
    settled h =
        let like : Alike t u = subst (λ (x : State). Alike x u) (sym v.state) (subst (λ (x : State). Alike (last s rs) x) (sym w.state) h.state) in
        let cause : why b rs t ≡ why b qs u =
        ap (λ (k : ℕ). cause_of b k (short rs) t.plan) h.count ∙ ap (λ (x : ℕ). cause_of b (length qs) x t.plan) h.fallen ∙ ap (λ (p : Standing). cause_of b (length qs) (short qs) p) like.plan in
        record {
          answer = v.answer ∙ ap (λ (k : ℕ). Ran (record { count = k; cause = why b rs t })) h.count ∙ ap (λ (c : Cause). Ran (record { count = length qs; cause = c })) cause ∙ sym w.answer;
          buffer = v.buffer ∙ sym w.buffer;
          state = like;
        }

module _ {s : State} {r q : Answer} {rs qs : List ModeRun} {before found left : List ℕ} {t u : State} where
  same_still : r ≡ q → Still rs before found s t → Still qs before left s u → Settled r q found left t u
  same_still e v w = record { answer = e; buffer = v.buffer ∙ sym w.buffer; state = alike_same t u (v.state ∙ sym w.state) }

  same_books : {more less : Matrix} → Books more less r rs before found s t → Books more less q qs before left s u → Settled r q found left t u
  same_books v w = record {
    answer = v.answer ∙ sym w.answer;
    buffer = v.buffer ∙ sym w.buffer;
    state = record {
      lines = v.lines ∙ sym w.lines;
      owed = λ a b. omega (arith, v.owed a b, w.owed a b);
      plan = v.plan ∙ sym w.plan;
      switch = v.switch ∙ sym w.switch;
    };
  }

  same_plan : {M : Maker} → Plans M r rs before found s t → Plans M q qs before left s u → t.plan ≡ u.plan → Settled r q found left t u
  same_plan v w e =
      let a : t.plan ≡ planned 0 v.modes = ap (λ (x : State). x.plan) v.state in
      let b : u.plan ≡ planned 0 w.modes = ap (λ (x : State). x.plan) w.state in
      let same : v.modes ≡ w.modes = cc in
      record {
        answer = v.answer ∙ ap (λ (ms : List Mode). Planned (record { modes = length ms; length = span ms })) same ∙ sym w.answer;
        buffer = v.buffer ∙ sym w.buffer;
        state = alike_same t u (v.state ∙ ap (λ (ms : List Mode). with_plan (planned 0 ms) s) same ∙ sym w.state);
      }

  same_step : Steps r rs before found s t → Steps q qs before left s u → Agree rs qs → Settled r q found left t u
  same_step v w e =
      let agree : Agree (v.run ∷ []) (w.run ∷ []) = subst (λ (x : List ModeRun). Agree (v.run ∷ []) x) w.runs (subst (λ (x : List ModeRun). Agree x qs) v.runs e) in
      let like : Alike v.run.after w.run.after = alike_after s s v.run w.run (alike_same s s refl) v.advanced w.advanced agree.0 in
      let place = same_place s s v.run w.run (alike_same s s refl) v.advanced w.advanced agree.0 in
      let mode = same_mode s s v.run w.run (alike_same s s refl) v.advanced w.advanced agree.0 in
      record {
        answer =
            v.answer
            ∙ ap (λ (k : ℕ). Stepped (record { number = k; dwell = v.run.mode.dwell; short = shortfall v.run.outcomes })) place
            ∙ ap (λ (m : Mode). Stepped (record { number = w.advanced.place; dwell = m.dwell; short = shortfall v.run.outcomes })) mode
            ∙ ap (λ (os : List (Option Outcome)). Stepped (record { number = w.advanced.place; dwell = w.run.mode.dwell; short = shortfall os })) agree.0
            ∙ sym w.answer;
        buffer = v.buffer ∙ sym w.buffer;
        state = subst (λ (x : State). Alike x u) (sym v.state) (subst (λ (x : State). Alike v.run.after x) (sym w.state) like);
      }

  same_tells : {x : ℕ} → Tells x r rs before found s t → Tells x q qs before left s u → Settled r q found left t u
  same_tells v w = same_still (v.answer ∙ sym w.answer) v.still w.still

module _ (M : Maker) (r q : Answer) (rs qs : List ModeRun) (before found left : List ℕ) (s t u : State) (agree : Agree rs qs) where
  one_yield : (c : Call) → Yields M c r rs before found s t → Yields M c q qs before left s u → (c ≡ Plan → t.plan ≡ u.plan) → Settled r q found left t u
  one_yield (Post i j x) v w p = same_books v w
  one_yield (Withdraw i j x) v w p = same_books v w
  one_yield (Batch bytes) v w p = same_books v w
  one_yield Plan v w p = same_plan v w (p refl)
  one_yield Step v w p = same_step v w agree
  one_yield (Run b) v w p = one_run b s r q rs qs before found left t u v w agree
  one_yield Drop v w p = record { answer = v.answer ∙ sym w.answer; buffer = v.buffer ∙ sym w.buffer; state = alike_same t u (v.state ∙ sym w.state) }
  one_yield (Owed i j) v w p = same_tells v w
  one_yield Busiest v w p = same_tells v w
  one_yield ModesLeft v w p = same_tells v w
  one_yield LengthLeft v w p = same_tells v w
  one_yield Write v w p = record { answer = v.answer ∙ sym w.answer; buffer = v.buffer ∙ sym w.buffer; state = alike_same t u (v.state ∙ sym w.state) }

-- a plan that is made stands, and want of memory leaves none
planless : {A : Type 0} {M : Maker} (size : ℕ) {r : Answer} {rs : List ModeRun} {before after : List ℕ} {s t u : State} → refusal Plan size s ≡ None → Plans M r rs before after s t → u ≡ s → t.plan ≡ u.plan → A
planless size {s = s} {t} {u} free v e p =
    let stood : s.plan ≡ planned 0 v.modes = ap (λ (x : State). x.plan) (sym e) ∙ sym p ∙ ap (λ (x : State). x.plan) v.state in
    let z : ◌≡◌ {A = ℕ} 0 1 = kinds s.plan stood free in
    absurd (omega arith)
  where
    kinds : (p : Standing) → p ≡ planned 0 v.modes → refusal Plan size (with_plan p s) ≡ None → ◌≡◌ {A = ℕ} 0 1
    kinds idle e f = cc
    kinds (planned k ms) e f = cc

module _ (M : Maker) (c : Call) (r q : Answer) (rs qs : List ModeRun) (before found left : List ℕ) (s t u : State) (agree : Agree rs qs) (same : c ≡ Plan → t.plan ≡ u.plan) where
  abbrev verdict : Option SessionDecline
  verdict = refusal c (length before) s

  plan_yields : c ≡ Plan → Yields M c r rs before found s t → Plans M r rs before found s t
  plan_yields e h = subst (λ (x : Call). Yields M x r rs before found s t) e h

  one_does : Does M c r rs before found s t → Does M c q qs before left s u → Settled r q found left t u
  one_does (does _ v) (does _ w) = one_yield M r q rs qs before found left s t u agree c v w same
  one_does (does e _) (does_not d f _ _) = never verdict d e f
  one_does (does e v) (wants_memory _ p _ k) = planless (length before) (subst (λ (x : Call). refusal x (length before) s ≡ None) p e) (plan_yields p v) k.state (same p)
  one_does (does_not d f _ _) (does e _) = never verdict d e f
  one_does (does_not d f x v) (does_not d' g y w) = same_still (let z : d ≡ d' = cc in x ∙ ap Declined z ∙ sym y) v w
  one_does (does_not d f _ _) (wants_memory e _ _ _) = never verdict d e f
  one_does (wants_memory e p _ k) (does _ w) = planless (length before) (subst (λ (x : Call). refusal x (length before) s ≡ None) p e) (subst (λ (x : Call). Yields M x q qs before left s u) p w) k.state (sym (same p))
  one_does (wants_memory e _ _ _) (does_not d f _ _) = never verdict d e f
  one_does (wants_memory _ _ x v) (wants_memory _ _ y w) = same_still (x ∙ sym y) v w

pub one_answer : (M : Maker) → OneAnswer M
one_answer M c r q rs qs before found left s t u v w agree same = one_does M c r q rs qs before found left s t u agree same v w
