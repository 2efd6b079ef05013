use Rattle.std.proofs.Common.{◌≡◌, ℕ, ◌+◌, sym, ap, ◌∙◌, subst, inl, inr, arith}
use Rattle.std.proofs.lemmas.Bool.{cases_Bool}
use Rattle.augmenting.specs.Holders.{Holders}
use Rattle.layered.proofs.Gains.{Turn, turn_start, still_idle, turn_skip, turn_found, turn_failed, round_end}
use Rattle.layered.proofs.rounds.augment_all.Goals as goal
use Rattle.layered.proofs.rounds.augment_all.Goals.{then-has_line, else-has_line}

pub loop-up-init : goal.loop-up-init
loop-up-init c = turn_start c.args.steps.now c.args.pairing.now.holders c.args.roots

pub loop-up-preserved : goal.loop-up-preserved
loop-up-preserved c =
    let steps = c.args.steps.now in
    let hs = c.args.pairing.now.holders in
    let hs1 = c.loop-up.pairing.holders in
    let roots = c.args.roots in
    let up = c.loop-up.up in
    let To : Holders → ℕ → Type 0 = λ x y. Turn steps hs x roots (up + 1) y in
    let to : (x : Holders) (y : ℕ) → c.if-has_line.pairing.holders ≡ x → c.if-has_line.tried ≡ y → To x y → To c.if-has_line.pairing.holders c.if-has_line.tried =
    λ x y p q s. (let P : Holders → Type 0 = λ z. To z c.if-has_line.tried in let Q : ℕ → Type 0 = λ z. To x z in subst P (sym p) (subst Q (sym q) s)) in
    elim c.if-has_line.branch [
      | then-has_line w ↦
          let is = sym c.has_line.ensures ∙ w.if-has_line.true in
          let idle = still_idle steps hs hs1 roots up c.loop-up.tried (omega arith) c.requires.roots is c.loop-up.invariant in
          let hs2 = w.augment.new.self.holders in
          let t2 = w.augment.new.tried in
          elim (cases_Bool w.augment.result) [
            | inl yes-found ↦
                to hs2 t2 (ap (λ p. p.holders) w.pairing-is) w.tried-is
                (turn_found steps hs hs1 hs2 roots up c.loop-up.tried t2 (omega arith) is (w.augment.ensures.found (omega arith) idle yes-found) c.loop-up.invariant)
            | inr not_found ↦
                let f = w.augment.ensures.failed (omega arith) idle not_found in
                to hs1 t2 (ap (λ p. p.holders) w.pairing-is ∙ f.1) w.tried-is (turn_failed steps hs hs1 roots up c.loop-up.tried t2 f.0 c.loop-up.invariant)
          ]
      | else-has_line w ↦
          to hs1 c.loop-up.tried (ap (λ p. p.holders) w.pairing-is) w.tried-is
          (turn_skip steps hs hs1 roots up c.loop-up.tried (sym c.has_line.ensures ∙ w.if-has_line.false) c.loop-up.invariant)
    ]

pub returns : goal.returns
returns c =
    round_end c.args.steps.now c.args.pairing.now.holders c.loop-up.pairing.holders c.args.roots c.loop-up.up c.loop-up.tried (omega arith) c.requires.roots c.requires.leads c.loop-up.invariant
