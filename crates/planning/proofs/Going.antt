-- Mode after mode, as a loop makes them. Assumes nothing.
use Rattle.std.proofs.Common.{◌≡◌, ℕ, ◌-◌, ◌<◌, ◌≤◌, List, [], ◌∷◌, ◌++◌, Option, sym, ap, ◌∙◌, subst, ap₂, append_assoc, append-nil, arith}
use Rattle.lines.specs.declared.Downlink.{Downlink}
use Rattle.lines.specs.Matrix.{Matrix, Even, Blank, Same, nothing}
use Rattle.lines.proofs.Sums.{sum_zeros, term_le_sum}
use Rattle.matching.specs.declared.EngineAnswer.TheVariants.{Matching}
use Rattle.matching.specs.Answers.{mate_of, May, AllRight}
use Rattle.schedule.specs.declared.Join.{Join}
use Rattle.schedule.specs.declared.Mode.{Mode}
use Rattle.schedule.specs.Modes.{granted}
use Rattle.padding.specs.Padding.{Padded}
use Rattle.planning.specs.declared.rest.Rest.{Rest}
use Rattle.planning.specs.Supports.{support_rows}
use Rattle.planning.specs.Making.{dwell_of, grant_row, mode_of, minus, matched, padded_left, owed_left, modes_from, Asked, MadeBy}
use Rattle.planning.specs.Rests.{rest_lines, rest_padded, rest_owed, Whole, Step}
use Rattle.planning.proofs.Rounds.{Peel, asked_peel, even_peel, dwell_le, dwell_pos}

-- the modes so far: the matchings of what is left, behind those so far, are matchings of the whole
pub record GoingOn (may : May) (n : ℕ) (m p q : Matrix) (done : List Mode) : Type 0 where
  pub whole : Matrix
  pub pads : Padded n m whole
  pub onward : (rest : List (List Downlink)) → Asked may n p rest → (all : List (List Downlink)) × Asked may n whole all × (done ++ modes_from n p q rest ≡ modes_from n whole m all)

abbrev pub Going : May → Matrix → Rest → List Mode → Type 0
Going may m r done = GoingOn may (rest_lines r) m (rest_padded r) (rest_owed r) done

-- no mode yet
pub going : (may : May) (n : ℕ) (m : Matrix) (r : Rest) (done : List Mode) → Whole n m r → done ≡ [] → Going may m r done
going may n m r done w none = record {
  whole = rest_padded r;
  pads = subst (λ k. Padded k m (rest_padded r)) (sym w.lines) w.pads.visits;
  onward = λ rest asked. (rest, asked, ap (λ ms. ms ++ modes_from (rest_lines r) (rest_padded r) (rest_owed r) rest) none ∙ ap (λ u. modes_from (rest_lines r) (rest_padded r) u rest) w.owed);
}

-- a matrix whose lines have a sum above zero is not zero
not_spent : (n b : ℕ) (p : Matrix) → 0 < n → 0 < b → Even n b p → Same n p nothing → ⊥
not_spent n b p some pos even zero-all = omega (arith, even.0 0 some, sum_zeros n (p 0) (λ j lj. zero-all 0 j some lj))

-- a matching of the support, and its dwell
module _ (may : May) (right : AllRight may) (r : Rest) (mates : List Downlink) (asked : may (rest_lines r) (support_rows (rest_lines r) (rest_padded r)) (Matching mates)) (d : ℕ) (is : d ≡ dwell_of (rest_lines r) (rest_padded r) mates) where
  round : Peel (rest_lines r) (rest_padded r) (mate_of mates) (dwell_of (rest_lines r) (rest_padded r) mates)
  round = asked_peel may (rest_lines r) (rest_padded r) mates right r.lines.some r.lines.few asked

  -- it is not longer than what is left, and lasts
  pub dwell_fits : d ≤ r.left
  dwell_fits = omega (arith, is, dwell_le (rest_lines r) r.left (rest_padded r) (mate_of mates) (dwell_of (rest_lines r) (rest_padded r) mates) r.lines.some round r.even)

  pub dwell_lasts : 0 < d
  dwell_lasts = omega (arith, is, dwell_pos (rest_lines r) (rest_padded r) (mate_of mates) (dwell_of (rest_lines r) (rest_padded r) mates) round)

  -- the padded numbers without it
  pub left_even : (p : Matrix) → p ≡ minus (rest_padded r) (matched mates d) → Even (rest_lines r) (r.left - d) p
  left_even p e = rw (e, is) (even_peel (rest_lines r) r.left (rest_padded r) (mate_of mates) (dwell_of (rest_lines r) (rest_padded r) mates) round r.even)

  pub left_blank : (p : Matrix) → p ≡ minus (rest_padded r) (matched mates d) → Blank (rest_lines r) p
  left_blank p e i j o = omega (arith, ap (λ (f : Matrix). f i j) e, r.blank i j o)

-- a mode lasts
pub step_lasts : (may : May) → AllRight may → (r r' : Rest) (x : Mode) → Step may r r' x → 0 < x.dwell
step_lasts may right r r' x s = dwell_lasts may right r s.mates s.asked x.dwell s.turned.dwell

-- one mode more
module _ (may : May) (m : Matrix) (r r' : Rest) (done : List Mode) (x : Mode) (pos : 0 < r.left) (s : Step may r r' x) (g : Going may m r done) where
  is_mode : x ≡ mode_of (rest_lines r) (rest_padded r) (rest_owed r) s.mates
  is_mode = ap₂ (λ (d : ℕ) (row : List (Option Join)). record { dwell = d; row = row }) s.turned.dwell (s.turned.row ∙ ap (λ d. grant_row (rest_lines r) d (rest_owed r) s.mates) s.turned.dwell)

  padded_is : rest_padded r' ≡ padded_left (rest_lines r) (rest_padded r) s.mates
  padded_is = s.turned.padded ∙ ap (λ d. minus (rest_padded r) (matched s.mates d)) s.turned.dwell

  owed_is : rest_owed r' ≡ owed_left (rest_lines r) (rest_padded r) (rest_owed r) s.mates
  owed_is = s.turned.owed ∙ ap (λ y. minus (rest_owed r) (granted y)) is_mode

  next_is : (rest : List (List Downlink)) → x ∷ modes_from (rest_lines r) (rest_padded r') (rest_owed r') rest ≡ modes_from (rest_lines r) (rest_padded r) (rest_owed r) (s.mates ∷ rest)
  next_is rest = ap₂ (λ y ys. y ∷ ys) is_mode (ap₂ (λ u v. modes_from (rest_lines r) u v rest) padded_is owed_is)

  onward : (rest : List (List Downlink)) → Asked may (rest_lines r) (rest_padded r') rest → (all : List (List Downlink)) × Asked may (rest_lines r) g.whole all × ((done ++ (x ∷ [])) ++ modes_from (rest_lines r) (rest_padded r') (rest_owed r') rest ≡ modes_from (rest_lines r) g.whole m all)
  onward rest h =
      let all = g.onward (s.mates ∷ rest) (not_spent (rest_lines r) r.left (rest_padded r) r.lines.some pos r.even, s.asked, subst (λ u. Asked may (rest_lines r) u rest) padded_is h) in
      (all.0, all.1, append_assoc done (x ∷ []) (modes_from (rest_lines r) (rest_padded r') (rest_owed r') rest) ∙ ap (λ l. done ++ l) (next_is rest) ∙ all.2)

  pub goes_on : (more : List Mode) → more ≡ done ++ (x ∷ []) → Going may m r' more
  goes_on more e = subst (λ k. GoingOn may k m (rest_padded r') (rest_owed r') more) (sym s.lines) (rw e (record { whole = g.whole; pads = g.pads; onward = onward }))

-- nothing is left
pub gone : (may : May) (m : Matrix) (r : Rest) (done : List Mode) → r.left ≡ 0 → Going may m r done → MadeBy may (rest_lines r) m done
gone may m r done none g =
    let all = g.onward [] (λ i j li lj. omega (arith, r.even.0 i li, term_le_sum (rest_lines r) (rest_padded r i) j lj)) in
    record {
      padded = g.whole;
      pads = g.pads;
      matchings = all.0;
      asked = all.1;
      modes = sym (append-nil done) ∙ all.2;
    }
