-- The smallest limit of the rules that hold. Assumes nothing.
use Rattle.std.proofs.Common.{◌≡◌, ℕ, zero, suc, ◌<◌, ◌≤◌, min, true, List, [], ◌∷◌, length, get_or, inl, inr, arith}
use Rattle.std.proofs.lemmas.Bool.{cases_Bool, cond-true, cond-false}
use Rattle.simulator.specs.declared.rules.FaultRule.{FaultRule}
use Rattle.simulator.specs.Faults.{holds, after, kept, no_rule, Smallest}

module _ (t i j : ℕ) where
  after_within : (f : FaultRule) (u : ℕ) → after f t i j u ≤ u
  after_within f u =
      elim (cases_Bool (holds f t i j)) [
        | inl h ↦ omega (arith, cond-true (holds f t i j) (min u f.most) u h)
        | inr h ↦ omega (arith, cond-false (holds f t i j) (min u f.most) u h)
      ]

  after_most : (f : FaultRule) (u : ℕ) → holds f t i j ≡ true → after f t i j u ≤ f.most
  after_most f u h = omega (arith, cond-true (holds f t i j) (min u f.most) u h)

  -- what is within u and within the rule, if it holds, is let through
  after_no_more : (f : FaultRule) (u x : ℕ) → x ≤ u → (holds f t i j ≡ true → x ≤ f.most) → x ≤ after f t i j u
  after_no_more f u x l m =
      elim (cases_Bool (holds f t i j)) [
        | inl h ↦ omega (arith, cond-true (holds f t i j) (min u f.most) u h, m h)
        | inr h ↦ omega (arith, cond-false (holds f t i j) (min u f.most) u h)
      ]

  pub kept_smallest : (fs : List FaultRule) (u : ℕ) → Smallest fs t i j u (kept fs t i j u)
  kept_smallest [] u = record { granted = omega arith; each = λ n l h. absurd (omega arith); no_more = λ x l m. l }
  kept_smallest (f ∷ fs) u =
      let rest = kept_smallest fs (after f t i j u) in
      record {
        granted = omega (arith, rest.granted, after_within f u);
        each = each_of rest;
        no_more = λ x l m. rest.no_more x (after_no_more f u x l (m 0 (omega arith))) (λ n b. m (suc n) (omega arith));
      }
    where
      each_of : Smallest fs t i j (after f t i j u) (kept fs t i j (after f t i j u)) → (n : ℕ) → n < length (f ∷ fs) → holds (get_or (f ∷ fs) n no_rule) t i j ≡ true → kept fs t i j (after f t i j u) ≤ (get_or (f ∷ fs) n no_rule).most
      each_of rest zero l h = omega (arith, rest.granted, after_most f u h)
      each_of rest (suc n) l h = rest.each n (omega arith) h
