-- Plans that are made and dropped, questions, and modes that are written, as a session shows them. Assumes nothing.
use Rattle.std.proofs.Common.{◌≡◌, ℕ, ◌*◌, ◌<◌, ◌≤◌, cond, eqb, ltb, List, [], ◌++◌, length, drop, Some, None, Option, sym, refl, ap, ◌∙◌}
use Rattle.std.proofs.lemmas.Bool.{eq-eqb, ne_eqb, lt-ltb, le-ltb}
use Rattle.lines.specs.Matrix.{busiest}
use Rattle.schedule.specs.declared.Mode.{Mode}
use Rattle.schedule.specs.Modes.{span}
use Rattle.plan_files.specs.Encoding.{encoded}
use Rattle.law.specs.declared.call.Call.TheVariants.{Plan, Write}
use Rattle.law.specs.declared.answer.Answer.TheVariants.{Planned, Wrote, Declined}
use Rattle.law.specs.declared.decline.SessionDecline.{SessionDecline}
use Rattle.law.specs.declared.decline.SessionDecline.TheVariants.{NothingOwed, ShortBuffer, NoMemory}
use Rattle.law.specs.States.{State, Plan as Standing, idle, planned, modes_left, with_plan}
use Rattle.law.specs.Refusals.{mode_size, refusal}
use Rattle.law.specs.Calls.{Maker, Does, does, wants_memory}
use Rattle.law.proofs.Said.{past_6, past_9, declined_so}

-- a plan on a session without one
by_units : (s : State) → s.plan ≡ idle → (x : Option SessionDecline) → cond (eqb (busiest s.lines s.owed) 0) (Some NothingOwed) None ≡ x → refusal Plan 0 s ≡ x
by_units s free x e = past_6 s.plan _ free ∙ e

plan_free : (s : State) → s.plan ≡ idle → (busiest s.lines s.owed ≡ 0 → ⊥) → refusal Plan 0 s ≡ None
plan_free s free some = by_units s free None (ap (λ x. cond x (Some NothingOwed) None) (ne_eqb (busiest s.lines s.owed) 0 some))

module _ {M : Maker} (before after : List ℕ) (s t : State) (buffer : after ≡ before) where
  pub nothing_owed_so : s.plan ≡ idle → busiest s.lines s.owed ≡ 0 → t ≡ s → Does M Plan (Declined NothingOwed) [] before after s t
  nothing_owed_so free none same = declined_so Plan (by_units s free (Some NothingOwed) (ap (λ x. cond x (Some NothingOwed) None) (eq-eqb (busiest s.lines s.owed) 0 none))) buffer same

  pub no_memory_so : s.plan ≡ idle → (busiest s.lines s.owed ≡ 0 → ⊥) → t ≡ s → Does M Plan (Declined NoMemory) [] before after s t
  no_memory_so free some same = wants_memory (plan_free s free some) refl refl (record { runs = refl; buffer = buffer; state = same })

  pub planned_so : s.plan ≡ idle → (busiest s.lines s.owed ≡ 0 → ⊥) → (ms : List Mode) → M s.lines s.owed ms → (k l : ℕ) → k ≡ length ms → l ≡ span ms → t ≡ with_plan (planned 0 ms) s → Does M Plan (Planned (record { modes = k; length = l })) [] before after s t
  planned_so free some ms made k l count long e =
      does (plan_free s free some) (record { modes = ms; made = made; answer = ap (λ (x : ℕ). Planned (record { modes = x; length = l })) count ∙ ap (λ (x : ℕ). Planned (record { modes = length ms; length = x })) long; runs = refl; buffer = buffer; state = e })

-- the modes left go into the buffer
by_size : (size : ℕ) (s : State) (k : ℕ) (ms : List Mode) → s.plan ≡ planned k ms → refusal Write size s ≡ cond (ltb size (mode_size * length ms)) (Some ShortBuffer) None
by_size size s k ms stood = past_9 s.plan _ stood ∙ ap (λ (p : Standing). cond (ltb size (mode_size * length (modes_left p))) (Some ShortBuffer) None) stood

module _ {M : Maker} (before after : List ℕ) (s t : State) (k : ℕ) (ms : List Mode) (stood : s.plan ≡ planned k ms) (same : t ≡ s) where
  pub short_buffer_so : length before < mode_size * length ms → after ≡ before → Does M Write (Declined ShortBuffer) [] before after s t
  short_buffer_so h buffer = declined_so Write (by_size (length before) s k ms stood ∙ ap (λ x. cond x (Some ShortBuffer) None) (lt-ltb (length before) (mode_size * length ms) h)) buffer same

  pub wrote_so : (n : ℕ) → mode_size * length ms ≤ length before → n ≡ mode_size * length ms → after ≡ encoded s.lines ms ++ drop n before → Does M Write (Wrote n) [] before after s t
  wrote_so n h count e =
      does (by_size (length before) s k ms stood ∙ ap (λ x. cond x (Some ShortBuffer) None) (le-ltb (length before) (mode_size * length ms) h))
      (record {
        answer = ap Wrote count ∙ ap (λ (p : Standing). Wrote (mode_size * length (modes_left p))) (sym stood);
        runs = refl;
        buffer = e ∙ ap (λ x. encoded s.lines ms ++ drop x before) count ∙ ap (λ (p : Standing). encoded s.lines (modes_left p) ++ drop (mode_size * length (modes_left p)) before) (sym stood);
        state = same;
      })
