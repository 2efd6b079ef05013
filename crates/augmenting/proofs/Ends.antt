-- What an engine ends with: each uplink holds a downlink, or a closed set shows that one cannot. Assumes nothing.
use Rattle.std.proofs.Common.{◌≡◌, ℕ, ◌<◌, ◌≤◌, true, ◌&&◌, ltb, ◌⊎◌, List, sym, ap, ◌∙◌, subst, inl, inr, arith}
use Rattle.std.proofs.lemmas.Bool.{cases_Bool, and_from, and_parts, lt-ltb, ltb-true}
use Rattle.lines.specs.Sets.{has, In}
use Rattle.lines.specs.declared.Downlink.{Downlink}
use Rattle.matching.specs.Supports.{in_rows, Matching, Witness}
use Rattle.matching.specs.Answers.{mate_of, Unused}
use Rattle.matching.proofs.Halls.{closed_witness}
use Rattle.augmenting.specs.Holders.{Holders, Within, holder, Apart, Edges, Busy, Idle, Mated, Seated}

-- ---- rows cut to n lines

pub cut_from : (n : ℕ) (rows cut : List ℕ) → Within n rows cut → (i j : ℕ) → i < 16 → in_rows cut i j ≡ true → (i < n) × (j < n) × (in_rows rows i j ≡ true)
cut_from n rows cut w i j li h =
    let both = and_parts (in_rows rows i j) (ltb i n && ltb j n) (sym (w i j li) ∙ h) in
    let in-n = and_parts (ltb i n) (ltb j n) both.1 in
    (ltb-true i n in-n.0, ltb-true j n in-n.1, both.0)

pub cut_to : (n : ℕ) (rows cut : List ℕ) → Within n rows cut → (i j : ℕ) → i < 16 → i < n → j < n → in_rows rows i j ≡ true → in_rows cut i j ≡ true
cut_to n rows cut w i j l li lj h = w i j l ∙ and_from (in_rows rows i j) (ltb i n && ltb j n) h (and_from (ltb i n) (ltb j n) (lt-ltb i n li) (lt-ltb j n lj))

-- ---- holders

pub edges_none : (rows : List ℕ) (hs : Holders) → ((j : ℕ) → j < 16 → holder hs j ≡ 16) → Edges rows hs
edges_none rows hs none j lj l = absurd (omega (arith, none j lj))

-- a search in some of the rows keeps each downlink in the row of its holder
pub edges_after : (rows some : List ℕ) (hs hs1 : Holders) (up t0 t : ℕ) → ((i j : ℕ) → i < 16 → in_rows some i j ≡ true → in_rows rows i j ≡ true) → Seated some hs hs1 up t0 t → Edges rows hs → Edges rows hs1
edges_after rows some hs hs1 up t0 t part s edges j lj l =
    elim (s.steps j lj) [
      | inl e ↦ (let P : ℕ → Type 0 = λ z. in_rows rows z j ≡ true in subst P (sym e) (edges j lj (omega arith)))
      | inr w ↦ part (holder hs1 j) j w.0 w.1
    ]

-- it leaves everyone who holds a downlink with one
pub busy_after : (rows : List ℕ) (hs hs1 : Holders) (up t0 t : ℕ) → Seated rows hs hs1 up t0 t → (u : ℕ) → u < 16 → Busy hs u → Busy hs1 u
busy_after rows hs hs1 up t0 t s u lu b =
    let w = s.stays b.0 b.1 (omega (arith, b.2)) in
    (w.0, w.1, w.2 ∙ b.2)

-- and who holds one then is the uplink or held one before
pub busy_before : (rows : List ℕ) (hs hs1 : Holders) (up t0 t : ℕ) → Seated rows hs hs1 up t0 t → (u : ℕ) → u < 16 → Busy hs1 u → (u ≡ up) ⊎ Busy hs u
busy_before rows hs hs1 up t0 t s u lu b =
    elim (cases_Bool (has t0 b.0)) [
      | inl old ↦ inr (b.0, b.1, sym (s.kept b.0 b.1 old) ∙ b.2)
      | inr new ↦
          elim (s.only b.0 b.1 new (omega (arith, b.2))) [
            | inl e ↦ inl (sym b.2 ∙ e)
            | inr w ↦ inr (w.0, w.1, w.3 ∙ b.2)
          ]
    ]

-- ---- the ends

module _ (n : ℕ) (rows cut : List ℕ) (hs : Holders) (small : n ≤ 16) (w : Within n rows cut) (edges : Edges cut hs) (ap-art : Apart hs) where
  pub matching_right : (mates : List Downlink) → ((u : ℕ) → u < n → Busy hs u) → Mated hs mates → Matching n (in_rows rows) (mate_of mates) × Unused n mates
  matching_right mates busy m =
      let mate : (u : ℕ) (lu : u < n) → mate_of mates u ≡ (busy u lu).0 =
      λ u lu. (let b = busy u lu in
      let P : ℕ → Type 0 = λ z. mate_of mates z ≡ b.0 in subst P b.2 (ap (λ d. d.0) (m.holding b.0 b.1 (omega (arith, b.2))))) in
      let edge : (u : ℕ) (lu : u < n) → (u < n) × ((busy u lu).0 < n) × (in_rows rows u (busy u lu).0 ≡ true) =
      λ u lu. (let b = busy u lu in
      let P : ℕ → Type 0 = λ z. in_rows cut z b.0 ≡ true in cut_from n rows cut w u b.0 (omega arith) (subst P b.2 (edges b.0 b.1 (omega (arith, b.2))))) in (
        record {
          inside = λ u lu. omega (arith, mate u lu, (edge u lu).1);
          held = λ u lu. (let P : ℕ → Type 0 = λ z. in_rows rows u z ≡ true in subst P (sym (mate u lu)) (edge u lu).2);
          apart = λ u v lu lv e.
              let same : (busy u lu).0 ≡ (busy v lv).0 = sym (mate u lu) ∙ e ∙ mate v lv in
              sym (busy u lu).2 ∙ ap (holder hs) same ∙ (busy v lv).2;
        },
        λ u ge lu. m.idle u lu (λ j lj e.
            let P : ℕ → Type 0 = λ z. in_rows cut z j ≡ true in
            let l : u < n = (cut_from n rows cut w u j lu (subst P e (edges j lj (omega arith)))).0 in
            omega arith),
      )

  -- uplink k is idle and in the set, and each downlink of a row of the set is held by an uplink of the set
  pub witness_right : (set k : ℕ) → ((u : ℕ) → In set u → u < n) → k < n → In set k → Idle hs k
      → ((u j : ℕ) → u < n → j < 16 → In set u → in_rows cut u j ≡ true → (holder hs j < 16) × In set (holder hs j)) → Witness n (in_rows rows) (has set)
  witness_right set k lines lk is idle closed =
      closed_witness n (in_rows rows) (has set) (holder hs) k
      (λ i ge. elim (cases_Bool (has set i)) [ inl h ↦ absurd (omega (arith, lines i h)) | inr h ↦ h ])
      lk is (λ j lj e. idle j (omega arith) e)
      (λ i j li lj l e. ap-art i j (omega arith, omega arith, omega arith, e))
      (λ u j lu lj h e.
      let c = closed u j lu (omega arith) h (cut_to n rows cut w u j (omega arith) lu lj e) in
      (lines (holder hs j) c.1, c.1))
