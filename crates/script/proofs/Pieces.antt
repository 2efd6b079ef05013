-- A line is split at its first space. Assumes nothing.
use Rattle.std.proofs.Common.{◌≡◌, ℕ, zero, suc, ◌<◌, Bool, true, false, cond, eqb, List, [], ◌∷◌, length, get_or, take, drop, refl, ap, ◌∙◌, le_of_suc-le-suc, not-suc-le-zero, arith, eq-eqb, ne_eqb}
use Rattle.script.specs.Words.{split, onto}

-- no space below i
abbrev pub Clear : List ℕ → ℕ → Type 0
Clear s i = (k : ℕ) → k < i → get_or s k 0 ≡ 32 → ⊥

rest : (b : ℕ) (bs : List ℕ) (n : ℕ) → Clear (b ∷ bs) (suc n) → Clear bs n
rest b bs n h k less = h (suc k) (omega arith)

first : (b : ℕ) (bs : List ℕ) (n : ℕ) → Clear (b ∷ bs) (suc n) → split (b ∷ bs) ≡ onto b (split bs)
first b bs n h = ap (λ (t : Bool). cond t ([] ∷ split bs) (onto b (split bs))) (ne_eqb b 32 (h 0 (omega arith)))

pub no_space : (s : List ℕ) → Clear s (length s) → split s ≡ s ∷ []
no_space [] h = refl
no_space (b ∷ bs) h = first b bs (length bs) h ∙ ap (onto b) (no_space bs (rest b bs (length bs) h))

pub at_space : (s : List ℕ) (i : ℕ) → i < length s → get_or s i 0 ≡ 32 → Clear s i → split s ≡ take i s ∷ split (drop (suc i) s)
at_space [] i less e h = absurd (not-suc-le-zero less)
at_space (b ∷ bs) zero less e h = ap (λ (t : Bool). cond t ([] ∷ split bs) (onto b (split bs))) (eq-eqb b 32 e)
at_space (b ∷ bs) (suc i) less e h = first b bs i h ∙ ap (onto b) (at_space bs i (le_of_suc-le-suc less) e (rest b bs i h))

onto_some : (b : ℕ) (ws : List (List ℕ)) → 0 < length (onto b ws)
onto_some b [] = omega arith
onto_some b (w ∷ ws) = omega arith

-- even an empty line has one piece
pub some_piece : (s : List ℕ) → 0 < length (split s)
some_piece [] = omega arith
some_piece (b ∷ bs) =
    elim (eqb b 32) as (λ t. 0 < length (cond t ([] ∷ split bs) (onto b (split bs)))) [ true ↦ omega arith | false ↦ onto_some b (split bs) ]
