-- Several modes run in one call, as a session shows it. Assumes nothing.
use Rattle.std.proofs.Common.{◌≡◌, ℕ, ◌+◌, ◌<◌, ◌≤◌, true, false, cond, List, [], ◌∷◌, ◌++◌, length, Some, None, Option, sym, refl, ap, ◌∙◌, subst, arith, length-append}
use Rattle.std.proofs.lemmas.Bool.{ne_eqb, eq-eqb}
use Rattle.std.proofs.lemmas.Bool.Decides.{nat_tests}
use Rattle.law.specs.declared.call.Call.TheVariants.{Step, Run}
use Rattle.runs.specs.declared.Cause.{Cause}
use Rattle.runs.specs.declared.Cause.TheVariants.{End, Short, Stop, Budget}
use Rattle.runs.specs.declared.Shortfall.{Shortfall}
use Rattle.law.specs.declared.answer.Step.{Step as OneStep}
use Rattle.law.specs.declared.answer.Answer.{Answer}
use Rattle.law.specs.declared.answer.Answer.TheVariants.{Stepped, Ran, Declined}
use Rattle.law.specs.declared.decline.SessionDecline.{SessionDecline}
use Rattle.law.specs.declared.decline.SessionDecline.TheVariants.{NoBudget}
use Rattle.law.specs.States.{State, Plan as Standing, idle, planned, stands}
use Rattle.law.specs.Runs.{ModeRun, Advanced, Chain, last, missed, short, shortfall}
use Rattle.law.specs.Refusals.{if_planned, next_decline, refusal}
use Rattle.law.specs.Calls.{Maker, Whole, LastShort, why, Does, does, does_not, wants_memory}
use Rattle.law.proofs.Said.{declined_so}
use Rattle.law.proofs.One.{next_free}
use Rattle.law.proofs.Shortfalls.{whole_none, short_some}

-- one mode run from t to u, that told x of what fell short
pub record StepTo (t u : State) (x : Option Shortfall) : Type 0 where
  pub run : ModeRun
  pub advanced : Advanced t run
  pub end : u ≡ run.after
  pub told : x ≡ shortfall run.outcomes

-- what an answer tells of units that fell short
abbrev told_short : Answer → Option Shortfall
told_short (Stepped x) = x.short
told_short _ = None

pub step_to : {M : Maker} {x : OneStep} {rs : List ModeRun} {before after : List ℕ} {t u : State} → Does M Step (Stepped x) rs before after t u → StepTo t u x.short
step_to (does _ h) = record { run = h.run; advanced = h.advanced; end = h.state; told = ap told_short h.answer }
step_to (does_not d _ e _) = let z : ◌≡◌ {A = ℕ} 0 1 = cc in absurd (omega arith)
step_to (wants_memory _ _ e _) = let z : ◌≡◌ {A = ℕ} 0 1 = cc in absurd (omega arith)

-- a step that was declined
pub step_not : {M : Maker} {d : SessionDecline} {rs : List ModeRun} {before after : List ℕ} {t u : State} → Does M Step (Declined d) rs before after t u → (next_decline t.plan t.switch ≡ Some d) × (u ≡ t)
step_not (does _ h) = let e = h.answer in let z : ◌≡◌ {A = ℕ} 0 1 = cc in absurd (omega arith)
step_not {d = d} (does_not e f a h) = let same : d ≡ e = cc in (f ∙ ap Some (sym same), h.state)
step_not (wants_memory _ p _ _) = let z : ◌≡◌ {A = ℕ} 0 1 = cc in absurd (omega arith)

-- so many modes have been run from s to t, none fell short, and the plan goes on
pub record Going (s t : State) (count : ℕ) : Type 0 where
  pub runs : List ModeRun
  pub chain : Chain s runs
  pub end : t ≡ last s runs
  pub many : count ≡ length runs
  pub whole : short runs ≡ 0
  pub on : stands t.plan ≡ true

pub going_none : (s : State) → stands s.plan ≡ true → Going s s 0
going_none s e = record { runs = []; chain = tt; end = refl; many = refl; whole = refl; on = e }

chain_push : (s : State) (rs : List ModeRun) (r : ModeRun) → Chain s rs → Advanced (last s rs) r → Chain s (rs ++ r ∷ [])
chain_push s [] r h w = (w, tt)
chain_push s (x ∷ xs) r h w = (h.0, chain_push x.after xs r h.1 w)

last_push : (s : State) (rs : List ModeRun) (r : ModeRun) → last s (rs ++ r ∷ []) ≡ r.after
last_push s [] r = refl
last_push s (x ∷ xs) r = last_push x.after xs r

short_push : (rs : List ModeRun) (r : ModeRun) → short (rs ++ r ∷ []) ≡ short rs + missed r.outcomes
short_push [] r = omega arith
short_push (x ∷ xs) r = omega (arith, short_push xs r)

before_any : (r : ModeRun) (rs : List ModeRun) → missed r.outcomes ≡ 0 → Whole r rs
before_any r [] e = tt
before_any r (x ∷ xs) e = e

last_short : (rs : List ModeRun) → short rs ≡ 0 → LastShort rs
last_short [] e = tt
last_short (x ∷ xs) e = (before_any x xs (omega arith), last_short xs (omega arith))

last_short_push : (rs : List ModeRun) (r : ModeRun) → short rs ≡ 0 → LastShort (rs ++ r ∷ [])
last_short_push [] r e = (tt, tt)
last_short_push (x ∷ xs) r e = (before_any x (xs ++ r ∷ []) (omega arith), last_short_push xs r (omega arith))

-- 9 is passed where a plan stands
stands_planned : (p : Standing) (next : Option SessionDecline) → stands p ≡ true → if_planned p next ≡ next
stands_planned idle next e = let z : ◌≡◌ {A = ℕ} 0 1 = cc in absurd (omega arith)
stands_planned (planned k ms) next e = refl

-- a run of at least one mode is declined as a step is
pub run_refusal : (s : State) (b size : ℕ) → (b ≡ 0 → ⊥) → stands s.plan ≡ true → refusal (Run b) size s ≡ next_decline s.plan s.switch
run_refusal s b size ne on = stands_planned s.plan _ on ∙ ap (λ x. cond x (Some NoBudget) (next_decline s.plan s.switch)) (ne_eqb b 0 ne)

-- the call is not declined where a mode was run
chain_stands : (s : State) (rs : List ModeRun) → Chain s rs → 1 ≤ length rs → stands s.plan ≡ true
chain_stands s [] h k = absurd (omega arith)
chain_stands s (r ∷ rs) h k = ap stands h.0.stood

chain_free : (s : State) (rs : List ModeRun) → Chain s rs → 1 ≤ length rs → next_decline s.plan s.switch ≡ None
chain_free s [] h k = absurd (omega arith)
chain_free s (r ∷ rs) h k = next_free s r h.0

-- modes that were run make a call
module _ {M : Maker} (b count : ℕ) (cause : Cause) (rs : List ModeRun) (before after : List ℕ) (s t : State) (buffer : after ≡ before) where
  pub ran_so : Chain s rs → t ≡ last s rs → count ≡ length rs → 1 ≤ count → count ≤ b → LastShort rs → cause ≡ why b rs t → (cause ≡ Stop → (d : SessionDecline) × (next_decline t.plan t.switch ≡ Some d)) → Does M (Run b) (Ran (record { count = count; cause = cause })) rs before after s t
  ran_so chain end many some few one_short told stopped =
      let one : 1 ≤ length rs = omega arith in
      does (run_refusal s b (length before) (λ z. omega arith) (chain_stands s rs chain one) ∙ chain_free s rs chain one) (record {
        chain = chain;
        some = one;
        few = omega arith;
        one_short = one_short;
        stopped = λ e. stopped (told ∙ e);
        answer = ap (λ (k : ℕ). Ran (record { count = k; cause = cause })) many ∙ ap (λ (c : Cause). Ran (record { count = length rs; cause = c })) told;
        buffer = buffer;
        state = end;
      })

module _ {s t : State} {k : ℕ} (w : Going s t k) where
  module _ {u : State} {x : Option Shortfall} (m : StepTo t u x) where
    pushed : Chain s (w.runs ++ m.run ∷ [])
    pushed = chain_push s w.runs m.run w.chain (subst (λ (y : State). Advanced y m.run) w.end m.advanced)

    ends_here : u ≡ last s (w.runs ++ m.run ∷ [])
    ends_here = m.end ∙ sym (last_push s w.runs m.run)

    counts_here : k + 1 ≡ length (w.runs ++ m.run ∷ [])
    counts_here = omega (arith, w.many, length-append w.runs (m.run ∷ []))

    -- the mode was carried whole, and the plan goes on
    pub going_on : x ≡ None → stands u.plan ≡ true → Going s u (k + 1)
    going_on e on = record {
      runs = w.runs ++ m.run ∷ [];
      chain = pushed;
      end = ends_here;
      many = counts_here;
      whole = omega (arith, short_push w.runs m.run, w.whole, whole_none m.run.outcomes (sym m.told ∙ e));
      on = on;
    }

  module _ {M : Maker} (b : ℕ) (before after : List ℕ) (buffer : after ≡ before) where
    module _ {u : State} {x : Option Shortfall} (m : StepTo t u x) (fits : k < b) where
      stops : (c : Cause) → c ≡ why b (w.runs ++ m.run ∷ []) u → (c ≡ Stop → ⊥) → Does M (Run b) (Ran (record { count = k + 1; cause = c })) (w.runs ++ m.run ∷ []) before after s u
      stops c e never = ran_so b (k + 1) c (w.runs ++ m.run ∷ []) before after s u buffer (pushed m) (ends_here m) (counts_here m) (omega arith) (omega arith) (last_short_push w.runs m.run w.whole) e (λ q. absurd (never q))

      pub ends_so : stands u.plan ≡ false → Does M (Run b) (Ran (record { count = k + 1; cause = End })) (w.runs ++ m.run ∷ []) before after s u
      ends_so off = stops End (grind (arith, nat_tests, off)) (λ q. let z : ◌≡◌ {A = ℕ} 0 1 = cc in omega arith)

      pub falls_short_so : stands u.plan ≡ true → (y : Shortfall) → x ≡ Some y → Does M (Run b) (Ran (record { count = k + 1; cause = Short })) (w.runs ++ m.run ∷ []) before after s u
      falls_short_so on y e =
          let some : 0 < missed m.run.outcomes = short_some m.run.outcomes y (sym m.told ∙ e) in
          let total : 0 < short (w.runs ++ m.run ∷ []) = omega (arith, short_push w.runs m.run) in
          stops Short (grind (arith, nat_tests, on, total)) (λ q. let z : ◌≡◌ {A = ℕ} 0 1 = cc in omega arith)

    here : (c : Cause) → 1 ≤ k → k ≤ b → c ≡ why b w.runs t → (c ≡ Stop → (d : SessionDecline) × (next_decline t.plan t.switch ≡ Some d)) → Does M (Run b) (Ran (record { count = k; cause = c })) w.runs before after s t
    here c some few e stopped = ran_so b k c w.runs before after s t buffer w.chain w.end w.many some few (last_short w.runs w.whole) e stopped

    pub stopped_so : 1 ≤ k → k < b → (d : SessionDecline) → next_decline t.plan t.switch ≡ Some d → Does M (Run b) (Ran (record { count = k; cause = Stop })) w.runs before after s t
    stopped_so some less d e = let on = w.on in let z = w.whole in let n = w.many in here Stop some (omega arith) (grind (arith, nat_tests, on, z, n)) (λ q. (d, e))

    pub spent_so : 1 ≤ k → k ≡ b → Does M (Run b) (Ran (record { count = k; cause = Budget })) w.runs before after s t
    spent_so some all_of = let on = w.on in let z = w.whole in let n = w.many in here Budget some (omega arith) (grind (arith, nat_tests, on, z, n)) (λ q. let o : ◌≡◌ {A = ℕ} 0 1 = cc in absurd (omega arith))

  -- before the first mode the state is as it was
  pub going_first : k ≡ 0 → t ≡ s
  going_first e = w.end ∙ first w.runs (omega (arith, w.many))
    where
      first : (rs : List ModeRun) → length rs ≡ 0 → last s rs ≡ s
      first [] h = refl
      first (x ∷ xs) h = absurd (omega arith)

-- a run that is declined: 5, and then as a step is
module _ {M : Maker} (b : ℕ) (before after : List ℕ) (s t : State) (buffer : after ≡ before) (same : t ≡ s) (on : stands s.plan ≡ true) where
  pub no_budget_so : b ≡ 0 → Does M (Run b) (Declined NoBudget) [] before after s t
  no_budget_so z = declined_so (Run b) (stands_planned s.plan _ on ∙ ap (λ x. cond x (Some NoBudget) (next_decline s.plan s.switch)) (eq-eqb b 0 z)) buffer same

  pub run_declined_so : (d : SessionDecline) → (b ≡ 0 → ⊥) → next_decline s.plan s.switch ≡ Some d → Does M (Run b) (Declined d) [] before after s t
  run_declined_so d ne h = declined_so (Run b) (run_refusal s b (length before) ne on ∙ h) buffer same
