-- The steps from a layer, made uplink by uplink. Assumes nothing.
use Rattle.std.proofs.Common.{◌≡◌, ℕ, ◌+◌, ◌<◌, ◌≤◌, true, false, not, ◌&&◌, ◌||◌, List, length, get_or, set, sym, refl, ap, ◌∙◌, inl, inr, arith, get_or-set_other, get_or-set_same}
use Rattle.std.proofs.lemmas.Bool.{cases_eq, both_ways, or_cases, or_left, or_right}
use Rattle.lines.specs.Sets.{has, In}
use Rattle.lines.proofs.Bits.{has_zero}
use Rattle.matching.specs.Supports.{in_rows}
use Rattle.layered.specs.Layers.{Stepped}

-- the uplinks below b are done
pub record Stepping (rows : List ℕ) (layer seen : ℕ) (steps0 steps : List ℕ) (next b : ℕ) : Type 0 where
  pub same : (u : ℕ) → u < 16 → has layer u ≡ false → get_or steps u 0 ≡ get_or steps0 u 0
  pub row : (u : ℕ) → u < b → In layer u → (k : ℕ) → in_rows steps u k ≡ (in_rows rows u k && not (has seen k))
  pub into : (u : ℕ) → u < b → In layer u → (k : ℕ) → in_rows steps u k ≡ true → In next k
  pub from : (k : ℕ) → In next k → (u : ℕ) × (u < b) × In layer u × (in_rows steps u k ≡ true)

pub stepping_start : (rows : List ℕ) (layer seen : ℕ) (steps : List ℕ) → Stepping rows layer seen steps steps 0 0
stepping_start rows layer seen steps =
    record {
      same = λ u lu h. refl;
      row = λ u lu h k. absurd (omega arith);
      into = λ u lu h k e. absurd (omega arith);
      from = λ k h. absurd (both_ways (has 0 k) (has_zero k) h);
    }

pub stepping_end : (rows : List ℕ) (layer seen : ℕ) (steps0 steps : List ℕ) (next b : ℕ) → 16 ≤ b → b ≤ 16 → Stepping rows layer seen steps0 steps next b → Stepped rows layer seen steps0 steps next
stepping_end rows layer seen steps0 steps next b ge le s =
    record {
      same = s.same;
      row = λ u lu. s.row u (omega arith);
      into = λ u lu. s.into u (omega arith);
      from = λ k h. (let w = s.from k h in (w.0, omega (arith, w.1), w.2, w.3));
    }

-- uplink b is not in the layer
pub stepping_skip : (rows : List ℕ) (layer seen : ℕ) (steps0 steps : List ℕ) (next b : ℕ) → has layer b ≡ false → Stepping rows layer seen steps0 steps next b → Stepping rows layer seen steps0 steps next (b + 1)
stepping_skip rows layer seen steps0 steps next b out s =
    let not-b : (u : ℕ) → In layer u → u ≡ b → ⊥ = λ u h e. both_ways (has layer b) out (ap (has layer) (sym e) ∙ h) in
    record {
      same = s.same;
      row = λ u lu h. elim (cases_eq u b) [ inl e ↦ absurd (not-b u h e) | inr ne ↦ s.row u (omega arith) h ];
      into = λ u lu h. elim (cases_eq u b) [ inl e ↦ absurd (not-b u h e) | inr ne ↦ s.into u (omega arith) h ];
      from = λ k h. (let w = s.from k h in (w.0, omega (arith, w.1), w.2, w.3));
    }

-- uplink b is in the layer, and takes the steps v
pub stepping_take : (rows : List ℕ) (layer seen : ℕ) (steps0 steps : List ℕ) (next next1 b v : ℕ) → b < length steps → In layer b
    → ((k : ℕ) → has v k ≡ (in_rows rows b k && not (has seen k))) → ((k : ℕ) → has next1 k ≡ (has next k || has v k))
    → Stepping rows layer seen steps0 steps next b → Stepping rows layer seen steps0 (set steps b v) next1 (b + 1)
stepping_take rows layer seen steps0 steps next next1 b v long is is-v is-next s =
    let at : get_or (set steps b v) b 0 ≡ v = get_or-set_same steps b v 0 long in
    let is-step : (k : ℕ) → has next1 k ≡ (has next k || in_rows (set steps b v) b k) = λ k. is-next k ∙ ap (λ z. has next k || has z k) (sym at) in
    let off : (u : ℕ) → (u ≡ b → ⊥) → get_or (set steps b v) u 0 ≡ get_or steps u 0 = λ u ne. get_or-set_other steps b u v 0 ne in
    let here : (u k : ℕ) → u ≡ b → in_rows (set steps b v) u k ≡ in_rows (set steps b v) b k = λ u k e. ap (λ z. in_rows (set steps b v) z k) e in
    record {
      same = λ u lu h. off u (λ e. both_ways (has layer u) h (ap (has layer) e ∙ is)) ∙ s.same u lu h;
      row = λ u lu h k. elim (cases_eq u b) [
        | inl e ↦ here u k e ∙ ap (λ z. has z k) at ∙ is-v k ∙ ap (λ z. in_rows rows z k && not (has seen k)) (sym e)
        | inr ne ↦ ap (λ z. has z k) (off u ne) ∙ s.row u (omega arith) h k
      ];
      into = λ u lu h k e. elim (cases_eq u b) [
        | inl same ↦ is-step k ∙ or_right (has next k) (in_rows (set steps b v) b k) (sym (here u k same) ∙ e)
        | inr ne ↦ is-step k ∙ or_left (has next k) (in_rows (set steps b v) b k) (s.into u (omega arith) h k (ap (λ z. has z k) (sym (off u ne)) ∙ e))
      ];
      from = λ k h. elim (or_cases (has next k) (in_rows (set steps b v) b k) (sym (is-step k) ∙ h)) [
        | inl old ↦ (let w = s.from k old in (w.0, omega (arith, w.1), w.2, ap (λ z. has z k) (off w.0 (λ e. omega (arith, w.1))) ∙ w.3))
        | inr new ↦ (b, omega arith, is, new)
      ];
    }
