-- Between two moments with nothing posted or withdrawn, the clock rises by what leaves the busiest line, and by no more than what fell short besides. Assumes nothing.
use Rattle.std.proofs.Common.{◌≡◌, ℕ, ◌+◌, ◌-◌, ◌≤◌, List, [], ◌∷◌, ◌++◌, sym, refl, ap, ◌∙◌, subst, arith}
use Rattle.lines.specs.declared.Line.{Line}
use Rattle.lines.specs.Matrix.{Matrix, Inside, load, busiest}
use Rattle.lines.proofs.Loads.{load_same, load_add, busiest_bound, load_busiest}
use Rattle.schedule.specs.declared.Mode.{Mode}
use Rattle.schedule.specs.Modes.{AllSound, span, granted, grants, Serves}
use Rattle.schedule.proofs.Modes.{load_mode, load_span}
use Rattle.switch.specs.Meaning.{Meaning}
use Rattle.law.specs.declared.call.Call.{Call}
use Rattle.law.specs.declared.call.Call.TheVariants.{Post, Withdraw, Batch, Plan, Step, Run, Drop, Owed, Busiest, ModesLeft, LengthLeft, Write}
use Rattle.law.specs.declared.answer.Answer.{Answer}
use Rattle.law.specs.States.{State, Plan as Standing, idle, planned, onward, with_plan}
use Rattle.law.specs.Runs.{ModeRun, Advanced, Chain, last, carried_by, missed, short}
use Rattle.law.specs.Calls.{Maker, Still, Books, Yields, Does, does, does_not, wants_memory}
use Rattle.law.specs.History.{Moment, ends, Linked, brings, takes, if_accepted, fell_short, Quiet, Paced, Makes}
use Rattle.law.proofs.Carried.{lacking, parted, load_missed}

-- a plan stands, with these modes left; some units fell short before it was made, and some in it
record Pending (n top fallen clock : ℕ) (owed : Matrix) (ms : List Mode) : Type 0 where
  before : ℕ
  within : ℕ
  parts : fallen ≡ before + within
  sound : AllSound n ms
  length : clock + span ms ≤ top + before
  loads : (l : Line) → Inside n l → load n l owed ≤ load n l (grants ms) + within

abbrev High : ℕ → ℕ → ℕ → ℕ → Matrix → Standing → Type 0
High n top fallen clock owed idle = clock + busiest n owed ≤ top + fallen
High n top fallen clock owed (planned place ms) = Pending n top fallen clock owed ms

-- from f on, so many units have fallen short up to s
record Kept (n : ℕ) (f : State) (fallen : ℕ) (s : State) : Type 0 where
  lines : s.lines ≡ n
  clock : f.switch.clock ≤ s.switch.clock
  low : (l : Line) → Inside n l → load n l f.owed + f.switch.clock ≤ load n l s.owed + s.switch.clock
  high : High n (f.switch.clock + busiest n f.owed) fallen s.switch.clock s.owed s.plan

module _ (n top fallen clock : ℕ) (owed : Matrix) where
  -- a plan that ends
  ended : (ms : List Mode) → Pending n top fallen clock owed ms → clock + busiest n owed ≤ top + fallen
  ended ms p =
      let b : busiest n owed ≤ span ms + p.within = busiest_bound n owed (span ms + p.within) (λ l k. omega (arith, p.loads l k, load_span n l ms p.sound)) in
      omega (arith, p.parts, p.length)

  next : (place : ℕ) (ms : List Mode) → Pending n top fallen clock owed ms → High n top fallen clock owed (onward place ms)
  next place [] p = ended [] p
  next place (m ∷ ms) p = p

  settled : (q : Standing) → High n top fallen clock owed q → clock + busiest n owed ≤ top + fallen
  settled idle h = h
  settled (planned place ms) h = ended ms h

-- one mode is run
module _ (n : ℕ) (f : State) (fallen : ℕ) (s : State) (r : ModeRun) (k : Kept n f fallen s) (w : Advanced s r) where
  abbrev top : ℕ
  top = f.switch.clock + busiest n f.owed

  stood : Pending n top fallen s.switch.clock s.owed (r.mode ∷ w.rest)
  stood = subst (λ (q : Standing). High n top fallen s.switch.clock s.owed q) w.stood k.high

  ticks : r.after.switch.clock ≡ s.switch.clock + r.mode.dwell
  ticks = ap (λ (m : Meaning). m.clock) w.switch

  left : (l : Line) → Inside n l → load n l s.owed ≡ load n l r.after.owed + load n l (carried_by r.outcomes)
  left l i = load_same n l s.owed (λ a b. r.after.owed a b + carried_by r.outcomes a b) i (λ a b _ _. sym (w.owed a b)) ∙ load_add n l r.after.owed (carried_by r.outcomes)

  parts_of : (l : Line) → Inside n l → load n l (granted r.mode) ≡ load n l (carried_by r.outcomes) + load n l (lacking r.outcomes)
  parts_of l i = load_same n l (granted r.mode) (λ a b. carried_by r.outcomes a b + lacking r.outcomes a b) i (λ a b _ _. parted s r w a b) ∙ load_add n l (carried_by r.outcomes) (lacking r.outcomes)

  pending : Pending n top (fallen + missed r.outcomes) r.after.switch.clock r.after.owed w.rest
  pending = record {
    before = stood.before;
    within = stood.within + missed r.outcomes;
    parts = omega (arith, stood.parts);
    sound = stood.sound.1;
    length = omega (arith, stood.length, ticks);
    loads = λ l i. omega (arith, stood.loads l i, left l i, parts_of l i, load_add n l (granted r.mode) (grants w.rest), load_missed n l r.outcomes i w.sixteen);
  }

  kept_run : Kept n f (fallen + missed r.outcomes) r.after
  kept_run = record {
    lines = w.lines ∙ k.lines;
    clock = omega (arith, k.clock, ticks);
    low = λ l i. omega (arith, k.low l i, left l i, parts_of l i, load_mode n r.mode stood.sound.0 l, ticks);
    high = subst (λ (q : Standing). High n top (fallen + missed r.outcomes) r.after.switch.clock r.after.owed q) (sym w.goes_on) (next n top (fallen + missed r.outcomes) r.after.switch.clock r.after.owed w.place w.rest pending);
  }

fewer : (n : ℕ) (f : State) (x y : ℕ) (s : State) → x ≡ y → Kept n f x s → Kept n f y s
fewer n f x y s e k = subst (λ (z : ℕ). Kept n f z s) e k

kept_chain : (n : ℕ) (f : State) (fallen : ℕ) (s : State) (rs : List ModeRun) → Kept n f fallen s → Chain s rs → Kept n f (fallen + short rs) (last s rs)
kept_chain n f fallen s [] k h = fewer n f _ _ s (omega arith) k
kept_chain n f fallen s (r ∷ rs) k h =
    fewer n f _ _ _ (omega arith) (kept_chain n f (fallen + missed r.outcomes) r.after rs (kept_run n f fallen s r k h.0) h.1)

-- the switch and what is owed stay
module _ (n : ℕ) (f : State) (fallen : ℕ) (s t : State) (k : Kept n f fallen s) (lines : t.lines ≡ s.lines) (switch : t.switch ≡ s.switch) (owed : (a b : ℕ) → t.owed a b ≡ s.owed a b) where
  abbrev ceiling : ℕ
  ceiling = f.switch.clock + busiest n f.owed

  time : t.switch.clock ≡ s.switch.clock
  time = ap (λ (m : Meaning). m.clock) switch

  loaded : (l : Line) → Inside n l → load n l t.owed ≡ load n l s.owed
  loaded l i = load_same n l t.owed s.owed i (λ a b _ _. owed a b)

  peak : busiest n t.owed ≤ busiest n s.owed
  peak = busiest_bound n t.owed (busiest n s.owed) (λ l i. omega (arith, loaded l i, load_busiest n l s.owed i))

  with_high : High n ceiling fallen t.switch.clock t.owed t.plan → Kept n f fallen t
  with_high h = record {
    lines = lines ∙ k.lines;
    clock = omega (arith, time, k.clock);
    low = λ l i. omega (arith, time, k.low l i, loaded l i);
    high = h;
  }

  under : t.switch.clock + busiest n t.owed ≤ ceiling + fallen
  under = omega (arith, time, peak, settled n ceiling fallen s.switch.clock s.owed s.plan k.high)

  kept_idle : t.plan ≡ idle → Kept n f fallen t
  kept_idle p = with_high (subst (λ (q : Standing). High n ceiling fallen t.switch.clock t.owed q) (sym p) under)

  kept_plan : (ms : List Mode) → Serves n ms s.owed → span ms ≡ busiest n s.owed → t.plan ≡ planned 0 ms → Kept n f fallen t
  kept_plan ms serves exact p =
      let h : Pending n ceiling fallen t.switch.clock t.owed ms =
      record {
        before = fallen;
        within = 0;
        parts = omega arith;
        sound = serves.sound;
        length = omega (arith, time, settled n ceiling fallen s.switch.clock s.owed s.plan k.high);
        loads = λ l i. omega (arith, loaded l i, load_same n l (grants ms) s.owed i serves.exact);
      } in
      with_high (subst (λ (q : Standing). High n ceiling fallen t.switch.clock t.owed q) (sym p) h)

  same_high : (q : Standing) → High n ceiling fallen s.switch.clock s.owed q → High n ceiling fallen t.switch.clock t.owed q
  same_high idle h = under
  same_high (planned place ms) h = record {
    before = h.before;
    within = h.within;
    parts = h.parts;
    sound = h.sound;
    length = omega (arith, time, h.length);
    loads = λ l i. omega (arith, loaded l i, h.loads l i);
  }

  kept_same : t.plan ≡ s.plan → Kept n f fallen t
  kept_same p = with_high (subst (λ (q : Standing). High n ceiling fallen t.switch.clock t.owed q) (sym p) (same_high s.plan k.high))

-- a call posts and withdraws nothing
record Calm (c : Call) (r : Answer) : Type 0 where
  brought : (a b : ℕ) → if_accepted r (brings c) a b ≡ 0
  taken : (a b : ℕ) → if_accepted r (takes c) a b ≡ 0

module _ (M : Maker) (makes : Makes M) (n : ℕ) (f : State) (fallen : ℕ) where
  none_run : (s : State) (rs : List ModeRun) → rs ≡ [] → Kept n f fallen s → Kept n f (fallen + short rs) s
  none_run s rs e k = fewer n f _ _ s (omega (arith, ap short e)) k

  kept_still : {rs : List ModeRun} {before after : List ℕ} {s t : State} → Still rs before after s t → Kept n f fallen s → Kept n f (fallen + short rs) t
  kept_still {rs} {s = s} {t = t} h k = none_run t rs h.runs (subst (λ (x : State). Kept n f fallen x) (sym h.state) k)

  kept_books : {more less : Matrix} {r : Answer} {rs : List ModeRun} {before after : List ℕ} {s t : State} → Books more less r rs before after s t → ((a b : ℕ) → if_accepted r more a b ≡ 0) → ((a b : ℕ) → if_accepted r less a b ≡ 0) → Kept n f fallen s → Kept n f (fallen + short rs) t
  kept_books {more} {less} {r} {rs} {s = s} {t = t} h m l k =
      let more-none : (a b : ℕ) → more a b ≡ 0 = λ a b. subst (λ (x : Answer). if_accepted x more a b ≡ 0) h.answer (m a b) in
      let less_none : (a b : ℕ) → less a b ≡ 0 = λ a b. subst (λ (x : Answer). if_accepted x less a b ≡ 0) h.answer (l a b) in
      none_run t rs h.runs (kept_same n f fallen s t k h.lines h.switch (λ a b. omega (arith, h.owed a b, more-none a b, less_none a b)) h.plan)

  module _ (r : Answer) (rs : List ModeRun) (before after : List ℕ) (s t : State) (k : Kept n f fallen s) where
    kept_yields : (c : Call) → Calm c r → Yields M c r rs before after s t → Kept n f (fallen + short rs) t
    kept_yields (Post i j u) q h = kept_books h q.brought q.taken k
    kept_yields (Withdraw i j u) q h = kept_books h q.brought q.taken k
    kept_yields (Batch bytes) q h = kept_books h q.brought q.taken k
    kept_yields Plan q h =
        let made : M n s.owed h.modes = subst (λ (l : ℕ). M l s.owed h.modes) k.lines h.made in
        let there = with_plan (planned 0 h.modes) s in
        none_run t rs h.runs (subst (λ (y : State). Kept n f fallen y) (sym h.state) (kept_plan n f fallen s there k refl refl (λ a b. refl) h.modes (makes.serves n s.owed h.modes made) (makes.exact n s.owed h.modes made) refl))
    kept_yields Step q h =
        let w = kept_chain n f fallen s (h.run ∷ []) k (h.advanced, tt) in
        subst (λ (y : State). Kept n f (fallen + short rs) y) (sym h.state) (fewer n f _ _ _ (ap (λ (x : List ModeRun). fallen + short x) (sym h.runs)) w)
    kept_yields (Run b) q h = subst (λ (y : State). Kept n f (fallen + short rs) y) (sym h.state) (kept_chain n f fallen s rs k h.chain)
    kept_yields Drop q h = none_run t rs h.runs (subst (λ (y : State). Kept n f fallen y) (sym h.state) (kept_idle n f fallen s (with_plan idle s) k refl refl (λ a b. refl) refl))
    kept_yields (Owed i j) q h = kept_still h.still k
    kept_yields Busiest q h = kept_still h.still k
    kept_yields ModesLeft q h = kept_still h.still k
    kept_yields LengthLeft q h = kept_still h.still k
    kept_yields Write q h = none_run t rs h.runs (subst (λ (x : State). Kept n f fallen x) (sym h.state) k)

  kept_call : {c : Call} {r : Answer} {rs : List ModeRun} {before after : List ℕ} {s t : State} → Does M c r rs before after s t → Calm c r → Kept n f fallen s → Kept n f (fallen + short rs) t
  kept_call {c} {r} {rs} {before} {after} {s} {t} (does _ h) q k = kept_yields r rs before after s t k c q h
  kept_call (does_not d _ _ h) q k = kept_still h k
  kept_call (wants_memory _ _ _ h) q k = kept_still h k

kept_list : (M : Maker) (makes : Makes M) (n : ℕ) (f : State) (fallen : ℕ) (s : State) (ms rest : List Moment) → Linked M s (ms ++ rest) → Quiet ms → Kept n f fallen s → Kept n f (fallen + fell_short ms) (ends s ms)
kept_list M makes n f x s [] rest h q k = fewer n f _ _ s (omega arith) k
kept_list M makes n f x s (m ∷ ms) rest h q k =
    let calm : Calm m.call m.answer = record { brought = λ a b. omega (arith, q.nothing_posted a b); taken = λ a b. omega (arith, q.nothing_withdrawn a b) } in
    let quiet : Quiet ms = record { nothing_posted = λ a b. omega (arith, q.nothing_posted a b); nothing_withdrawn = λ a b. omega (arith, q.nothing_withdrawn a b) } in
    fewer n f _ _ _ (omega arith) (kept_list M makes n f (x + short m.runs) m.state ms rest h.1 quiet (kept_call M makes n f x h.0 calm k))

-- at the first moment
kept_first : (n : ℕ) (s : State) → s.lines ≡ n → s.plan ≡ idle → Kept n s 0 s
kept_first n s e p =
    let top : ℕ = s.switch.clock + busiest n s.owed in
    let h : top ≤ top + 0 = omega arith in
    record {
      lines = e;
      clock = omega arith;
      low = λ l i. omega arith;
      high = subst (λ (q : Standing). High n top 0 s.switch.clock s.owed q) (sym p) h;
    }

pub pace : (M : Maker) (makes : Makes M) (n : ℕ) (s : State) (between rest : List Moment) → s.lines ≡ n → Linked M s (between ++ rest) → s.plan ≡ idle → Quiet between → Paced n s between (ends s between)
pace M makes n s between rest l h p q =
    let t = ends s between in
    let k = kept_list M makes n s 0 s between rest h q (kept_first n s l p) in
    let under : t.switch.clock + busiest n t.owed ≤ s.switch.clock + busiest n s.owed + (0 + fell_short between) =
    settled n (s.switch.clock + busiest n s.owed) (0 + fell_short between) t.switch.clock t.owed t.plan k.high in
    let rise : s.switch.clock ≤ t.switch.clock = k.clock in
    let low : busiest n s.owed ≤ (t.switch.clock - s.switch.clock) + busiest n t.owed =
    busiest_bound n s.owed ((t.switch.clock - s.switch.clock) + busiest n t.owed) (λ l i. omega (arith, k.low l i, load_busiest n l t.owed i)) in
    record { rises = rise; low = omega arith; high = omega arith }
