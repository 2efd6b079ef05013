use Rattle.std.proofs.Common.{◌≡◌, ℕ, suc, ◌+◌, ◌-◌, ◌<◌, List, ◌∷◌, length, get_or, take, drop, sym, ap, ◌∙◌, add-one, rules}
use Rattle.std.proofs.lemmas.List.{take_rest}
use Rattle.script.specs.Words.{split}
use Rattle.script.proofs.Pieces.{no_space, at_space}
use Rattle.script.proofs.words.split_piece.Goals as goal

pub returns-in-Some : goal.returns-in-Some
returns-in-Some c =
    let s : List ℕ = c.args.s.now in
    let i : ℕ = c.in-Some.i in
    let less : i < length s = search rules in
    let space : get_or s i 0 ≡ 32 = search rules in
    let clear : (k : ℕ) → k < i → get_or s k 0 ≡ 32 → ⊥ = search rules in
    let back : drop (suc i) s ≡ take (length s - (i + 1)) (drop (i + 1) s) = ap (λ (k : ℕ). drop k s) (sym (add-one i)) ∙ sym (take_rest s (i + 1)) in
    at_space s i less space clear ∙ ap (λ (l : List ℕ). take i s ∷ split l) back

pub returns-in-None : goal.returns-in-None
returns-in-None c = no_space c.args.s.now (search rules)
