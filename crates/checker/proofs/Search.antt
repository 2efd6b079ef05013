-- What `find_map` tells of a range that begins at 0. Assumes nothing.
use Rattle.std.proofs.Common.{◌≡◌, ℕ, zero, suc, ◌+◌, ◌<◌, true, List, [], ◌∷◌, length, get_or, Some, None, Option, MatchOption, IsTrue, sym, ap, ◌∙◌, arith}
use Rattle.std.specs.declared.ops.Range.{Range}
use Rattle.std.specs.Fn.{Called, Mut}
use Rattle.std.specs.Iterator.{Yields}
use Rattle.std.specs.Iterator.Runs.{Run, SomeRun, YieldsRun, AllItemsGive, IsFirstToGive, CallKeepsClosure}
use Rattle.std.proofs.lemmas.Iterator.Adapters.{option_map_id}
use Rattle.std.proofs.iter.Yields.{nat_range_steps}

-- the numbers that a range has given, and what is left of it
places : (xs : List ℕ) (s t : Range ℕ) → Yields nat_range_steps s xs t → (t.end ≡ s.end) × (t.start ≡ s.start + length xs) × ((k d : ℕ) → k < length xs → (get_or xs k d ≡ s.start + k) × (s.start + k < s.end))
places [] s t y = (sym (ap (λ (r : Range ℕ). r.end) y), omega (arith, ap (λ (r : Range ℕ). r.start) y), λ k d l. absurd (omega arith))
places (x ∷ xs) s t (j, step, rest) =
    let h = places xs j t rest in
    (h.0 ∙ step.0, omega (arith, h.1, step.1.2), at h.2)
  where
    at : ((k d : ℕ) → k < length xs → (get_or xs k d ≡ j.start + k) × (j.start + k < j.end)) → (k d : ℕ) → k < suc (length xs) → (get_or (x ∷ xs) k d ≡ s.start + k) × (s.start + k < s.end)
    at h zero d l = (omega (arith, step.1.1), omega (arith, step.1.0))
    at h (suc k) d l = let there = h k d (omega arith) in (omega (arith, there.0, step.1.2), omega (arith, there.1, step.0, step.1.2))

module _ (n : ℕ) (p : Run nat_range_steps) (from : p.from ≡ record { start = 0; end = n }) where
  item : (k : ℕ) → k < p.len → (p.at k ≡ Some k) × (k < n)
  unfolding YieldsRun
  item k l =
      let there = (places p.items p.from p.gave.0.0 p.gave.0.1).2 k 0 (omega (arith, p.long)) in
      let is : get_or p.items k 0 ≡ k = omega (arith, there.0, ap (λ (r : Range ℕ). r.start) from) in
      (sym (option_map_id (p.at k)) ∙ p.reads k 0 l ∙ ap (λ (i : ℕ). Some i) is, omega (arith, there.1, ap (λ (r : Range ℕ). r.start) from, ap (λ (r : Range ℕ). r.end) from))

  all : p.whole ≡ true → (k : ℕ) → k < n → k < p.len
  unfolding YieldsRun
  all whole k l =
      let left = places p.items p.from p.gave.0.0 p.gave.0.1 in
      let end = p.gave.0.2 whole in
      omega (arith, p.long, left.0, left.1, end.1.1.0, ap (λ (r : Range ℕ). r.start) from, ap (λ (r : Range ℕ). r.end) from)

module _ {F B : Type 0} (g : Mut F (ℕ × Unit {0}) (Option B)) (f : F) (No : ℕ → Type 0) (Yes : ℕ → B → Type 0) (keeps : CallKeepsClosure g f)
    (no : (i : ℕ) → Called g f (i, tt) None f → No i) (yes : (i : ℕ) (b : B) → Called g f (i, tt) (Some b) f → Yes i b) where
  pub found : (n : ℕ) (r : Option B)
      → SomeRun nat_range_steps (record { start = 0; end = n }) (λ p. MatchOption r (IsTrue p.whole × AllItemsGive p g f None) (λ y. (i : ℕ) × (i < p.len) × (p.len ≡ i + 1) × IsFirstToGive p g f (Some y) None i))
      → MatchOption r ((i : ℕ) → i < n → No i) (λ y. (i : ℕ) × (i < n) × Yes i y × ((k : ℕ) → k < i → No k))
  found n None (p, from, tells) =
      λ i l. no i (rw (item n p from i (all n p from tells.0 i l)).0 at (tells.1 keeps i))
  found n (Some y) (p, from, tells) =
      let (i, less, last, first) = tells in
      let here = item n p from i less in (
        i,
        here.1,
        yes i y (rw here.0 at (first keeps).0),
        (λ k l. no k (rw (item n p from k (omega (arith, less))).0 at ((first keeps).1 k l))),
      )
