-- The first bytes of a line. Assumes nothing.
use Rattle.std.proofs.Common.{◌≡◌, ℕ, ◌+◌, ◌<◌, ◌≤◌, min, eqb, leb, List, [], ◌∷◌, ◌++◌, length, take, set, None, sym, ap, ◌∙◌, inl, inr, arith}
use Rattle.std.proofs.lemmas.List.{length-take, take_all, take-append-le, take_more_set, length_push}
use Rattle.std.proofs.lemmas.Bool.{cases_lt, lt-leb, eq-eqb, ne_eqb, and_left, cond-false}
use Rattle.script.specs.Words.{split}
use Rattle.script.specs.Commands.{longest, shaped, readable}
use Rattle.script.specs.Requests.{asked, request_of}
use Rattle.line_input.specs.Kept.{most, is_empty}

-- a full front stays
pub full : (bs line : List ℕ) (n b : ℕ) → n ≤ length bs → most ≤ n → take n bs ≡ take most line → take n bs ≡ take most (line ++ b ∷ [])
full bs line n b room many e =
    let long : most ≤ length line = omega (arith, length-take n bs, length-take most line, ap length e) in
    e ∙ sym (take-append-le most line (b ∷ []) long)

-- a byte is added to a front that is not full
pub grown : (bs line : List ℕ) (n b : ℕ) → n < length bs → n < most → take n bs ≡ take most line → take (n + 1) (set bs n b) ≡ take most (line ++ b ∷ [])
grown bs line n b room few e =
    let size : n ≡ min most (length line) = omega (arith, length-take n bs, length-take most line, ap length e) in
    let short : length line ≤ most = omega arith in
    take_more_set bs n b room
    ∙ ap (λ (l : List ℕ). l ++ b ∷ []) (e ∙ take_all most line short)
    ∙ sym (take_all most (line ++ b ∷ []) (omega (arith, length_push line b)))

-- a line too long to be read asks for nothing
too_long : (line : List ℕ) → longest < length line → request_of line ≡ None
too_long line long =
    cond-false (readable line) (asked (split line)) None (and_left (leb (length line) longest) (shaped (split line)) (lt-leb (length line) longest long))

-- the front asks for what the line asks for
pub front_asks : (line : List ℕ) → request_of (take most line) ≡ request_of line
front_asks line =
    elim (cases_lt longest (length line)) [
      | inl long ↦ too_long (take most line) (omega (arith, length-take most line)) ∙ sym (too_long line long)
      | inr short ↦ ap request_of (take_all most line (omega arith))
    ]

-- nothing is kept of an empty line alone
pub none_kept : (bs line : List ℕ) (n : ℕ) → n ≤ length bs → take n bs ≡ take most line → eqb n 0 ≡ is_empty line
none_kept bs [] n room e = eq-eqb n 0 (omega (arith, length-take n bs, ap length e))
none_kept bs (b ∷ line) n room e = ne_eqb n 0 (λ z. omega (arith, length-take n bs, ap length e))
