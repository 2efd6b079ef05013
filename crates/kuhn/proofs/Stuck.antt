-- An uplink whose search failed, with the holders of all that was tried for it, is a witness. Assumes nothing.
use Rattle.std.proofs.Common.{◌≡◌, ℕ, ◌<◌, ◌≤◌, true, List, subst, inl, inr, arith}
use Rattle.std.proofs.lemmas.Bool.{cases_eq}
use Rattle.lines.specs.Sets.{has, In}
use Rattle.lines.proofs.Bits.{has_zero}
use Rattle.matching.specs.Supports.{in_rows, Witness}
use Rattle.augmenting.specs.Holders.{Holders, Within, holder, Apart, Edges, Idle, Searched}
use Rattle.kuhn.specs.Stuck.{Stuck}
use Rattle.augmenting.proofs.Ends.{cut_from, witness_right}

pub stuck_witness : (n : ℕ) (rows cut : List ℕ) (hs : Holders) (k t set : ℕ) → n ≤ 16 → Within n rows cut → Edges cut hs → Apart hs → k < n → Idle hs k → Searched cut hs k 0 t → Stuck hs k t set → Witness n (in_rows rows) (has set)
stuck_witness n rows cut hs k t set small w edges ap-art lk idle s st =
    let tried : (u j : ℕ) → u < n → In set u → in_rows cut u j ≡ true → In t j =
    λ u j lu h. elim (cases_eq k u) [
      | inl same ↦ (let P : ℕ → Type 0 = λ z. in_rows cut z j ≡ true → In t j in subst P same (s.1 j))
      | inr ne ↦
          let x = (st.from u h ne).1 in
          let P : ℕ → Type 0 = λ z. in_rows cut z j ≡ true → In t j in
          subst P x.3 ((s.0.held x.0 x.1 x.2 (has_zero x.0)).1 j)
    ] in
    let inside : (u : ℕ) → In set u → u < n =
    λ u h. elim (cases_eq k u) [
      | inl same ↦ omega arith
      | inr ne ↦
          let f = st.from u h ne in
          let x = f.1 in
          let P : ℕ → Type 0 = λ z. in_rows cut z x.0 ≡ true in
          (cut_from n rows cut w u x.0 f.0 (subst P x.3 (edges x.0 x.1 (omega (arith, f.0, x.3))))).0
    ] in
    let own : In set k = st.own (omega arith) in
    witness_right n rows cut hs small w edges ap-art set k inside lk own idle
    (λ u j lu lj h e.
    let y = tried u j lu h e in
    let l = (s.0.held j lj y (has_zero j)).0 in
    (l, elim (cases_eq k (holder hs j)) [ inl same ↦ (let P : ℕ → Type 0 = In set in subst P same own) | inr ne ↦ st.all j lj y l ne ]))
