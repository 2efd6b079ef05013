-- What is left after a round. Assumes nothing.
use Rattle.std.proofs.Common.{◌≡◌, ℕ, ◌<◌, ◌≤◌, true, false, not, ◌&&◌, ltb, List, sym, ap, ◌∙◌, subst, inl, inr, arith}
use Rattle.std.proofs.lemmas.Bool.{cases_Bool, both_ways, and_from, and_parts, and_cases, not-true, not-false, lt-ltb}
use Rattle.lines.specs.Sets.{has, In}
use Rattle.lines.proofs.Counts.{count_fewer}
use Rattle.matching.specs.Supports.{in_rows, Witness}
use Rattle.augmenting.specs.Holders.{Holders, Within, holder, Apart, Edges, Busy, Idle}
use Rattle.augmenting.proofs.Ends.{cut_from, witness_right}
use Rattle.layered.specs.Layers.{members, Round, Left, Gained, Ended}

pub edges_moved : (cut steps : List ℕ) (hs hs1 : Holders) (roots : ℕ) → ((i j : ℕ) → i < 16 → in_rows steps i j ≡ true → in_rows cut i j ≡ true) → Round steps hs hs1 roots → Edges cut hs → Edges cut hs1
edges_moved cut steps hs hs1 roots part r edges j lj l =
    elim (r.moved.edges j lj) [
      | inl e ↦ (let P : ℕ → Type 0 = λ z. in_rows cut z j ≡ true in subst P (sym e) (edges j lj (omega arith)))
      | inr w ↦ part (holder hs1 j) j w.0 w.1
    ]

-- held are the uplinks that hold one of all downlinks, and rest are the others of ups
pub left_over : (hs : Holders) (ups all held rest : ℕ) → (((k : ℕ) → has all k ≡ (ltb k 16 && ltb k 16)))
    → ((u : ℕ) → In held u → (u < 16) × ((j : ℕ) × (j < 16) × In all j × (holder hs j ≡ u))) → ((j : ℕ) → j < 16 → In all j → holder hs j < 16 → In held (holder hs j))
    → ((k : ℕ) → has rest k ≡ (has ups k && not (has held k))) → ((u : ℕ) → In ups u → u < 16) → Left hs ups rest
left_over hs ups all held rest is_all from into is-rest lines =
    record {
      idle = λ u h.
          let both = and_parts (has ups u) (not (has held u)) (sym (is-rest u) ∙ h) in (
            both.0,
            λ j lj e.
                let lu = lines u both.0 in
                let is : In held (holder hs j) = into j lj (is_all j ∙ and_from (ltb j 16) (ltb j 16) (lt-ltb j 16 lj) (lt-ltb j 16 lj)) (omega arith) in
                both_ways (has held u) (not-true (has held u) both.1) (ap (has held) (sym e) ∙ is),
          );
      busy = λ u h out.
          elim (and_cases (has ups u) (not (has held u)) (sym (is-rest u) ∙ out)) [
            | inl no-up ↦ absurd (both_ways (has ups u) no-up h)
            | inr is ↦ (let w = (from u (not-false (has held u) is)).1 in (w.0, w.1, w.3))
          ];
    }

-- idle are just the uplinks below n that hold nothing
pub record Tally (n : ℕ) (cut : List ℕ) (hs : Holders) (idle : ℕ) : Type 0 where
  pub edges : Edges cut hs
  pub none : (u : ℕ) → In idle u → (u < n) × Idle hs u
  pub some : (u : ℕ) → u < n → has idle u ≡ false → Busy hs u

pub tally_more : (n : ℕ) (cut : List ℕ) (hs hs1 : Holders) (idle rest : ℕ) → n ≤ 16 → Tally n cut hs idle → Gained cut hs hs1 idle rest → Tally n cut hs1 rest
tally_more n cut hs hs1 idle rest small t g =
    record {
      edges = edges_moved cut g.steps hs hs1 idle g.part g.round t.edges;
      none = λ u h. (let w = g.left.idle u h in ((t.none u w.0).0, w.1));
      some = λ u lu out. elim (cases_Bool (has idle u)) [
        | inl is ↦ g.left.busy u is out
        | inr isnt ↦ g.round.moved.keeps u (omega arith) (t.some u lu isnt)
      ];
    }

-- the round gained
pub fewer_idle : (cut : List ℕ) (hs hs1 : Holders) (idle rest : ℕ) → Gained cut hs hs1 idle rest → members rest < members idle
unfolding members
fewer_idle cut hs hs1 idle rest g =
    let w = g.round.gain in
    let b = w.3 in
    count_fewer 16 (has rest) (has idle) w.0 w.1 (λ u lu h. (g.left.idle u h).0)
    (elim (cases_Bool (has rest w.0)) [ inl is ↦ absurd ((g.left.idle w.0 is).1 b.0 b.1 b.2) | inr isnt ↦ isnt ]) w.2

-- no free downlink was reached: the reached uplinks are a witness
pub reached_witness : (n : ℕ) (rows cut : List ℕ) (hs : Holders) (idle reached k : ℕ) → n ≤ 16 → Within n rows cut → Apart hs → Tally n cut hs idle → In idle k → Ended cut hs idle reached → Witness n (in_rows rows) (has reached)
reached_witness n rows cut hs idle reached k small w ap-art t is l =
    let inside : (u : ℕ) → In reached u → u < n =
    λ u h. elim (l.from u h) [
      | inl root ↦ (t.none u root).0
      | inr b ↦
          let x = b.1 in
          let P : ℕ → Type 0 = λ z. in_rows cut z x.0 ≡ true in
          (cut_from n rows cut w u x.0 b.0 (subst P x.2 (t.edges x.0 x.1 (omega (arith, b.0, x.2))))).0
    ] in
    witness_right n rows cut hs small w t.edges ap-art reached k inside (t.none k is).0 (l.start k is) (t.none k is).1
    (λ u j lu lj h e. l.closed u j (omega arith) lj h e)
