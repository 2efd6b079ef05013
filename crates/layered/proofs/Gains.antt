-- The searches of a round, one after another: where the steps lead to a free downlink, they do not all fail. Assumes nothing.
use Rattle.std.proofs.Common.{◌≡◌, ℕ, ◌+◌, ◌<◌, ◌≤◌, true, false, ◌⊎◌, List, sym, refl, ap, ◌∙◌, subst, inl, inr, arith}
use Rattle.std.proofs.lemmas.Bool.{cases_eq, cases_Bool, both_ways}
use Rattle.lines.specs.Sets.{has, In}
use Rattle.lines.proofs.Bits.{has_zero}
use Rattle.matching.specs.Supports.{in_rows}
use Rattle.augmenting.specs.Holders.{Holders, holder, Busy, Idle, Closed, Searched, Seated}
use Rattle.augmenting.proofs.Seats.{closed_start}
use Rattle.augmenting.proofs.Ends.{busy_after, busy_before}
use Rattle.layered.specs.Layers.{Roots, Leads, Moved, Round}

-- the searches from the roots below b all failed, and t have been tried
pub record Failed (steps : List ℕ) (hs : Holders) (roots b t : ℕ) : Type 0 where
  pub closed : Closed steps hs 0 t
  pub tried : (u : ℕ) → u < b → In roots u → (k : ℕ) → in_rows steps u k ≡ true → In t k

-- the searches from the roots below b are done: hs became hs1
pub record Turn (steps : List ℕ) (hs hs1 : Holders) (roots b t : ℕ) : Type 0 where
  pub moved : Moved steps hs hs1
  pub only : (u : ℕ) → u < 16 → Busy hs1 u → ((u < b) × In roots u) ⊎ (Busy hs u)
  pub so_far : ((hs1 ≡ hs) × Failed steps hs roots b t) ⊎ ((u : ℕ) × (u < 16) × In roots u × Busy hs1 u)

pub turn_start : (steps : List ℕ) (hs : Holders) (roots : ℕ) → Turn steps hs hs roots 0 0
turn_start steps hs roots =
    record {
      moved = record { edges = λ j lj. inl refl; keeps = λ u lu h. h };
      only = λ u lu h. inr h;
      so_far = inl (refl, record { closed = closed_start steps hs 0; tried = λ u lu h k e. absurd (omega arith) });
    }

-- a root before its search holds nothing
pub still_idle : (steps : List ℕ) (hs hs1 : Holders) (roots b t : ℕ) → b < 16 → Roots hs roots → In roots b → Turn steps hs hs1 roots b t → Idle hs1 b
still_idle steps hs hs1 roots b t lb idle is s j lj e =
    elim (s.only b lb (j, lj, e)) [ inl w ↦ omega (arith, w.0) | inr w ↦ (idle b is).1 w.0 w.1 w.2 ]

-- b is no root
pub turn_skip : (steps : List ℕ) (hs hs1 : Holders) (roots b t : ℕ) → has roots b ≡ false → Turn steps hs hs1 roots b t → Turn steps hs hs1 roots (b + 1) t
turn_skip steps hs hs1 roots b t out s =
    record {
      moved = s.moved;
      only = λ u lu h. elim (s.only u lu h) [ inl w ↦ inl (omega (arith, w.0), w.1) | inr w ↦ inr w ];
      so_far = elim s.so_far [
        | inr g ↦ inr g
        | inl f ↦
            inl (
              f.0,
              record {
                closed = f.1.closed;
                tried = λ u lu h. elim (cases_eq u b) [ inl e ↦ absurd (both_ways (has roots b) out (ap (has roots) (sym e) ∙ h)) | inr ne ↦ f.1.tried u (omega arith) h ];
              },
            )
      ];
    }

-- b is a root that got a downlink
pub turn_found : (steps : List ℕ) (hs hs1 hs2 : Holders) (roots b t t2 : ℕ) → b < 16 → In roots b → Seated steps hs1 hs2 b t t2 → Turn steps hs hs1 roots b t → Turn steps hs hs2 roots (b + 1) t2
turn_found steps hs hs1 hs2 roots b t t2 lb is w s =
    record {
      moved = record {
        edges = λ j lj. elim (w.steps j lj) [
          | inl e ↦ (let P : ℕ → Type 0 = λ z. (z ≡ holder hs j) ⊎ ((z < 16) × (in_rows steps z j ≡ true)) in subst P (sym e) (s.moved.edges j lj))
          | inr x ↦ inr x
        ];
        keeps = λ u lu h. busy_after steps hs1 hs2 b t t2 w u lu (s.moved.keeps u lu h);
      };
      only = λ u lu h. elim (busy_before steps hs1 hs2 b t t2 w u lu h) [
        | inl e ↦ (let P : ℕ → Type 0 = In roots in inl (omega arith, subst P (sym e) is))
        | inr old ↦ elim (s.only u lu old) [ inl x ↦ inl (omega (arith, x.0), x.1) | inr x ↦ inr x ]
      ];
      so_far = inr (b, lb, is, (w.gets.0, w.gets.1, w.gets.3));
    }

-- b is a root that got none
pub turn_failed : (steps : List ℕ) (hs hs1 : Holders) (roots b t t2 : ℕ) → Searched steps hs1 b t t2 → Turn steps hs hs1 roots b t → Turn steps hs hs1 roots (b + 1) t2
turn_failed steps hs hs1 roots b t t2 w s =
    record {
      moved = s.moved;
      only = λ u lu h. elim (s.only u lu h) [ inl x ↦ inl (omega (arith, x.0), x.1) | inr x ↦ inr x ];
      so_far = elim s.so_far [
        | inr g ↦ inr g
        | inl f ↦
            let c = f.1.closed in
            let P : Holders → Type 0 = λ x. Searched steps x b t t2 in
            let w0 : Searched steps hs b t t2 = subst P f.0 w in
            inl (
              f.0,
              record {
                closed = record {
                  grows = λ j h. w0.0.grows j (c.grows j h);
                  held = λ j lj h new. elim (cases_Bool (has t j)) [
                    | inl old ↦ (let x = c.held j lj old new in (x.0, λ k e. w0.0.grows k (x.1 k e)))
                    | inr fresh ↦ w0.0.held j lj h fresh
                  ];
                };
                tried = λ u lu h k e. elim (cases_eq u b) [
                  | inl same ↦ w0.1 k (let Q : ℕ → Type 0 = λ z. in_rows steps z k ≡ true in subst Q same e)
                  | inr ne ↦ w0.0.grows k (f.1.tried u (omega arith) h k e)
                ];
              },
            )
      ];
    }

-- all roots are done
pub round_end : (steps : List ℕ) (hs hs1 : Holders) (roots b t : ℕ) → 16 ≤ b → Roots hs roots → Leads steps hs roots → Turn steps hs hs1 roots b t → Round steps hs hs1 roots
round_end steps hs hs1 roots b t ge idle leads s =
    record {
      moved = s.moved;
      only = λ u lu h. elim (s.only u lu h) [ inl w ↦ inl w.1 | inr w ↦ inr w ];
      gain = elim s.so_far [
        | inr g ↦ g
        | inl f ↦
            let c = f.1.closed in
            let x = leads t (record {
              first = λ u h k e. f.1.tried u (omega (arith, (idle u h).0)) h k e;
              later = λ j lj h lh k e. (c.held j lj h (has_zero j)).1 k e;
            }) in
            absurd (omega (arith, x.2, (c.held x.0 x.1 x.3 (has_zero x.0)).0))
      ];
    }
