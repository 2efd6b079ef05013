use Rattle.std.proofs.Common.{ℕ, ◌+◌, List, set, sym, ◌∙◌, subst, arith}
use Rattle.std.proofs.lemmas.List.{set-get_or}
use Rattle.layered.proofs.Steps.{Stepping, stepping_start, stepping_end, stepping_skip, stepping_take}
use Rattle.layered.proofs.layers.step_on.Goals as goal
use Rattle.layered.proofs.layers.step_on.Goals.{then-has_line, else-has_line}

pub loop-up-init : goal.loop-up-init
loop-up-init c = stepping_start c.args.rows.now c.args.layer c.args.seen c.args.steps.now

pub loop-up-preserved : goal.loop-up-preserved
loop-up-preserved c =
    let rows = c.args.rows.now in
    let layer = c.args.layer in
    let seen = c.args.seen in
    let steps0 = c.args.steps.now in
    let up = c.loop-up.up in
    let To : List ℕ → ℕ → Type 0 = λ x y. Stepping rows layer seen steps0 x y (up + 1) in
    elim c.if-has_line.branch [
      | then-has_line w ↦
          let v = w.without.result in
          let P : List ℕ → Type 0 = λ x. To x c.if-has_line.next in
          let Q : ℕ → Type 0 = λ y. To (set c.loop-up.steps up v) y in
          subst P (sym w.steps-is) (subst Q (sym w.next-is)
          (stepping_take rows layer seen steps0 c.loop-up.steps c.loop-up.next w.united-next.result up v (omega arith) (sym c.has_line.ensures ∙ w.if-has_line.true)
          w.without.ensures w.united-next.ensures c.loop-up.invariant))
      | else-has_line w ↦
          let P : List ℕ → Type 0 = λ x. To x c.if-has_line.next in
          let Q : ℕ → Type 0 = λ y. To c.loop-up.steps y in
          subst P (sym (w.steps-is ∙ set-get_or c.loop-up.steps up 0)) (subst Q (sym w.next-is)
          (stepping_skip rows layer seen steps0 c.loop-up.steps c.loop-up.next up (sym c.has_line.ensures ∙ w.if-has_line.false) c.loop-up.invariant))
    ]

pub returns : goal.returns
returns c =
    stepping_end c.args.rows.now c.args.layer c.args.seen c.args.steps.now c.loop-up.steps c.loop-up.next c.loop-up.up (omega arith) (omega arith) c.loop-up.invariant
