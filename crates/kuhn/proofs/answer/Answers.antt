use Rattle.std.proofs.Common.{ℕ, sym, ◌∙◌, subst, inl, inr, arith}
use Rattle.std.proofs.lemmas.Bool.{cases_eq}
use Rattle.augmenting.specs.Holders.{Holders, Within, Idle}
use Rattle.augmenting.proofs.Ends.{edges_after, busy_after, busy_before, matching_right}
use Rattle.kuhn.specs.Stuck.{Stuck}
use Rattle.kuhn.proofs.Stuck.{stuck_witness}
use Rattle.kuhn.proofs.answer.Goals as goal

pub returns-then-not-augment : goal.returns-then-not-augment
returns-then-not-augment c =
    let up = c.loop-up.up in
    let hs = c.loop-up.pairing.holders in
    let idle : Idle hs up = c.loop-up.invariant.2 up (omega arith) (omega arith) in
    let f = c.augment.ensures.failed (omega arith) idle c.if-not-augment.true in
    let W : ℕ → Type 0 = λ n. Within n c.args.rows c.within-cut.result in
    let P : Holders → Type 0 = λ x. Stuck x up c.augment.new.tried c.stuck_with.result in
    stuck_witness c.args.lines.count c.args.rows c.within-cut.result hs up c.augment.new.tried c.stuck_with.result
    c.args.lines.few (subst W c.count-n.ensures c.within-cut.ensures) c.loop-up.invariant.0 c.loop-up.pairing.apart (omega arith) idle f.0 (subst P f.1 c.stuck_with.ensures)

pub loop-up-preserved : goal.loop-up-preserved
loop-up-preserved c =
    let up = c.loop-up.up in
    let cut = c.within-cut.result in
    let hs = c.loop-up.pairing.holders in
    let hs1 = c.augment.new.self.holders in
    let t = c.augment.new.tried in
    let s = c.augment.ensures.found (omega arith) (c.loop-up.invariant.2 up (omega arith) (omega arith)) c.if-not-augment.false in (
      edges_after cut cut hs hs1 up 0 t (λ i j l h. h) s c.loop-up.invariant.0,
      λ u lu. elim (cases_eq u up) [
        | inl e ↦ (let g = s.gets in (g.0, g.1, g.3 ∙ sym e))
        | inr ne ↦ busy_after cut hs hs1 up 0 t s u (omega arith) (c.loop-up.invariant.1 u (omega arith))
      ],
      λ u le lu j lj e. elim (busy_before cut hs hs1 up 0 t s u lu (j, lj, e)) [
        | inl same ↦ omega arith
        | inr b ↦ c.loop-up.invariant.2 u (omega arith) lu b.0 b.1 b.2
      ],
    )

pub returns : goal.returns
returns c =
    let W : ℕ → Type 0 = λ n. Within n c.args.rows c.within-cut.result in
    matching_right c.args.lines.count c.args.rows c.within-cut.result c.loop-up.pairing.holders c.args.lines.few (subst W c.count-n.ensures c.within-cut.ensures) c.loop-up.invariant.0 c.loop-up.pairing.apart
    c.mates.result (λ u lu. c.loop-up.invariant.1 u (omega arith)) c.mates.ensures
