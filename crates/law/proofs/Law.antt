-- The law of every list of calls, and of one call more. Assumes nothing.
use Rattle.std.proofs.Common.{◌≡◌, ℕ, List, [], ◌∷◌, ◌++◌, length, sym, refl, ap, ◌∙◌, subst, arith}
use Rattle.lines.specs.Matrix.{Matrix}
use Rattle.schedule.specs.declared.Mode.{Mode}
use Rattle.schedule.specs.Modes.{span}
use Rattle.schedule.proofs.Modes.{no_shorter}
use Rattle.schedule.proofs.Shops.{no_shorter_shop}
use Rattle.schedule.proofs.Unfolded.{unfolds}
use Rattle.law.specs.declared.call.Call.{Call}
use Rattle.law.specs.declared.call.Call.TheVariants.{Post, Withdraw, Batch, Plan, Step, Run, Drop, Owed, Busiest, ModesLeft, LengthLeft, Write}
use Rattle.law.specs.declared.answer.Answer.{Answer}
use Rattle.law.specs.declared.answer.Answer.TheVariants.{Accepted, Planned, Stepped, Ran, Units, Wrote, Declined}
use Rattle.law.specs.States.{State, Plan as Standing, planned}
use Rattle.law.specs.Runs.{ModeRun, Chain, last}
use Rattle.law.specs.Calls.{Maker, Yields, Does, does, does_not, wants_memory}
use Rattle.law.specs.History.{Moment, ends, Linked, Shortest, Makes, EveryList}
use Rattle.law.specs.Stories.{Next, Lawful}
use Rattle.law.proofs.Balance.{balance}
use Rattle.law.proofs.Pace.{pace}

after : (M : Maker) (s : State) (past rest : List Moment) → Linked M s (past ++ rest) → Linked M (ends s past) rest
after M s [] rest h = h
after M s (m ∷ ms) rest h = after M m.state ms rest h.1

-- no call changes the number of lines
pub chain_lines : (s : State) (rs : List ModeRun) → Chain s rs → (last s rs).lines ≡ s.lines
chain_lines s [] h = refl
chain_lines s (r ∷ rs) h = chain_lines r.after rs h.1 ∙ h.0.lines

at_state : {n : ℕ} {t u : State} → t ≡ u → u.lines ≡ n → t.lines ≡ n
at_state e l = ap (λ (x : State). x.lines) e ∙ l

module _ (M : Maker) (r : Answer) (rs : List ModeRun) (before after : List ℕ) (s t : State) where
  yields_lines : (c : Call) → Yields M c r rs before after s t → t.lines ≡ s.lines
  yields_lines (Post i j u) h = h.lines
  yields_lines (Withdraw i j u) h = h.lines
  yields_lines (Batch bytes) h = h.lines
  yields_lines Plan h = at_state h.state refl
  yields_lines Step h = at_state h.state h.advanced.lines
  yields_lines (Run b) h = at_state h.state (chain_lines s rs h.chain)
  yields_lines Drop h = at_state h.state refl
  yields_lines (Owed i j) h = at_state h.still.state refl
  yields_lines Busiest h = at_state h.still.state refl
  yields_lines ModesLeft h = at_state h.still.state refl
  yields_lines LengthLeft h = at_state h.still.state refl
  yields_lines Write h = at_state h.state refl

pub does_lines : {M : Maker} {c : Call} {r : Answer} {rs : List ModeRun} {before after : List ℕ} {s t : State} → Does M c r rs before after s t → t.lines ≡ s.lines
does_lines {M} {c} {r} {rs} {before} {after} {s} {t} (does _ h) = yields_lines M r rs before after s t c h
does_lines (does_not d _ _ h) = at_state h.state refl
does_lines (wants_memory _ _ _ h) = at_state h.state refl

ends_lines : (M : Maker) (s : State) (past rest : List Moment) → Linked M s (past ++ rest) → (ends s past).lines ≡ s.lines
ends_lines M s [] rest h = refl
ends_lines M s (m ∷ ms) rest h = ends_lines M m.state ms rest h.1 ∙ does_lines h.0

-- what an answer tells of a plan
abbrev Told : ℕ → Matrix → Answer → State → Type 0
Told n owed Accepted t = Unit {0}
Told n owed (Planned x) t = Shortest n owed t.plan x.modes x.length
Told n owed (Stepped x) t = Unit {0}
Told n owed (Ran x) t = Unit {0}
Told n owed (Units u) t = Unit {0}
Told n owed (Wrote k) t = Unit {0}
Told n owed (Declined d) t = Unit {0}

-- an answer of another kind tells nothing of a plan
told_by : (n : ℕ) (owed : Matrix) (t : State) (r q : Answer) → r ≡ q → Told n owed q t → Told n owed r t
told_by n owed t r q e h = subst (λ (x : Answer). Told n owed x t) (sym e) h

module _ (M : Maker) (makes : Makes M) where
  shortest : (n : ℕ) (owed : Matrix) (ms : List Mode) (plan : Standing) → M n owed ms → plan ≡ planned 0 ms → Shortest n owed plan (length ms) (span ms)
  shortest n owed ms plan made e =
      let serves = makes.serves n owed ms made in
      let exact = makes.exact n owed ms made in
      subst (λ (p : Standing). Shortest n owed p (length ms) (span ms)) (sym e) (record {
        stands = refl;
        many = refl;
        long = refl;
        exact = exact;
        serves = serves;
        shop = unfolds n ms owed serves;
        least = λ other h. omega (arith, exact, no_shorter n other owed h);
        least_shop = λ time other h. omega (arith, exact, no_shorter_shop n time other owed h);
      })

  module _ (r : Answer) (rs : List ModeRun) (before after : List ℕ) (s t : State) where
    told_yields : (c : Call) → Yields M c r rs before after s t → Told s.lines s.owed r t
    told_yields (Post i j u) h = told_by _ _ t r _ h.answer tt
    told_yields (Withdraw i j u) h = told_by _ _ t r _ h.answer tt
    told_yields (Batch bytes) h = told_by _ _ t r _ h.answer tt
    told_yields Plan h = told_by _ _ t r _ h.answer (shortest s.lines s.owed h.modes t.plan h.made (ap (λ (x : State). x.plan) h.state))
    told_yields Step h = told_by _ _ t r _ h.answer tt
    told_yields (Run b) h = told_by _ _ t r _ h.answer tt
    told_yields Drop h = told_by _ _ t r _ h.answer tt
    told_yields (Owed i j) h = told_by _ _ t r _ h.answer tt
    told_yields Busiest h = told_by _ _ t r _ h.answer tt
    told_yields ModesLeft h = told_by _ _ t r _ h.answer tt
    told_yields LengthLeft h = told_by _ _ t r _ h.answer tt
    told_yields Write h = told_by _ _ t r _ h.answer tt

  told : {c : Call} {r : Answer} {rs : List ModeRun} {before after : List ℕ} {s t : State} → Does M c r rs before after s t → Told s.lines s.owed r t
  told {c} {r} {rs} {before} {after} {s} {t} (does _ h) = told_yields r rs before after s t c h
  told {r = r} {s = s} {t = t} (does_not d _ e _) = told_by _ _ t r _ e tt
  told {r = r} {s = s} {t = t} (wants_memory _ _ e _) = told_by _ _ t r _ e tt

  pub every_list : EveryList M
  every_list over start ms made linked = record {
    balance = λ past rest e. balance M over start past rest made (subst (λ (x : List Moment). Linked M start x) e linked);
    shortest = λ past rest m modes length e answer.
        let all = subst (λ (x : List Moment). Linked M start x) e linked in
        let here = after M start past (m ∷ rest) all in
        let n : (ends start past).lines ≡ over.lines = ends_lines M start past (m ∷ rest) all ∙ made.lines in
        subst (λ (l : ℕ). Shortest l (ends start past).owed m.state.plan modes length) n (subst (λ (r : Answer). Told (ends start past).lines (ends start past).owed r m.state) answer (told here.0));
    pace = λ past between rest e idle quiet.
        let all = subst (λ (x : List Moment). Linked M start x) e linked in
        pace M makes over.lines (ends start past) between rest (ends_lines M start past (between ++ rest) all ∙ made.lines) (after M start past (between ++ rest) all) idle quiet;
  }

-- one call more
linked_push : (M : Maker) (s : State) (ms : List Moment) (m : Moment) → Linked M s ms → Does M m.call m.answer m.runs m.before m.after (ends s ms) m.state → Linked M s (ms ++ m ∷ [])
linked_push M s [] m h d = (d, tt)
linked_push M s (x ∷ xs) m h d = (h.0, linked_push M x.state xs m h.1 d)

ends_push : (s : State) (ms : List Moment) (m : Moment) → ends s (ms ++ m ∷ []) ≡ m.state
ends_push s [] m = refl
ends_push s (x ∷ xs) m = ends_push x.state xs m

module _ (M : Maker) (makes : Makes M) where
  pub next : {c : Call} {r : Answer} {rs : List ModeRun} {before after : List ℕ} {s t : State} → Does M c r rs before after s t → Next M (record { call = c; answer = r; runs = rs; before = before; after = after; state = t }) s
  next {c} {r} {rs} {before} {after} {s} {t} d over start ms story =
      let m : Moment = record { call = c; answer = r; runs = rs; before = before; after = after; state = t } in
      let linked = linked_push M start ms m story.linked (subst (λ (x : State). Does M c r rs before after x t) story.end d) in
      (record { made = story.made; linked = linked; end = sym (ends_push start ms m) }, every_list M makes over start (ms ++ m ∷ []) story.made linked)

  -- what is said of a call makes it lawful
  pub lawful : {c : Call} {r : Answer} {rs : List ModeRun} {before after : List ℕ} {s t : State} → Does M c r rs before after s t → Lawful M c r before after s t
  lawful {rs = rs} d = record { runs = rs; does = d; next = next d }
