use Rattle.std.proofs.Common.{ℕ, replicate}
use lib.ListN.{get_or-replicate}
use Rattle.layered.proofs.Growth.{growing_start, growing_more, layers_ended, layers_lead, fewer_unseen}
use Rattle.layered.proofs.layers.layers_from.Goals as goal

pub loop-steps-init : goal.loop-steps-init
loop-steps-init c = growing_start c.args.rows.now c.args.pairing.now.holders (replicate {A = ℕ} 16 0) c.args.roots c.requires (λ u lu. get_or-replicate {A = ℕ} 16 u 0 0 lu)

pub returns-then-is_empty : goal.returns-then-is_empty
returns-then-is_empty c =
    layers_ended c.args.rows.now c.args.pairing.now.holders c.args.roots c.loop-steps.steps c.step_on-next.new.steps c.loop-steps.layer c.loop-steps.reached c.loop-steps.seen c.step_on-next.result
    c.loop-steps.invariant c.step_on-next.ensures (c.is_empty.ensures.none c.if-is_empty.true)

pub returns-then-not-is_empty : goal.returns-then-not-is_empty
returns-then-not-is_empty c =
    let w = c.is_empty-in-loop-steps.ensures.some c.if-not-is_empty.true in
    layers_lead c.args.rows.now c.args.pairing.now.holders c.args.roots c.loop-steps.steps c.step_on-next.new.steps c.loop-steps.layer c.loop-steps.reached c.loop-steps.seen c.step_on-next.result
    c.loop-steps.invariant c.step_on-next.ensures c.held-held.result c.without.result w.0 c.held-held.ensures c.without.ensures w.1 w.2

pub loop-steps-smaller : goal.loop-steps-smaller
loop-steps-smaller c =
    let w = c.is_empty.ensures.some c.if-is_empty.false in
    fewer_unseen c.args.rows.now c.args.pairing.now.holders c.args.roots c.loop-steps.steps c.step_on-next.new.steps c.loop-steps.layer c.loop-steps.reached c.loop-steps.seen c.step_on-next.result
    c.loop-steps.invariant c.step_on-next.ensures c.united-seen.result w.0 w.1 w.2 c.united-seen.ensures

pub loop-steps-preserved : goal.loop-steps-preserved
loop-steps-preserved c =
    growing_more c.args.rows.now c.args.pairing.now.holders c.args.roots c.loop-steps.steps c.step_on-next.new.steps c.loop-steps.layer c.loop-steps.reached c.loop-steps.seen c.step_on-next.result
    c.loop-steps.invariant c.step_on-next.ensures c.held-held.result c.without.result c.holders_of-layer.result c.united-reached.result c.united-seen.result
    c.requires c.args.pairing.now.apart c.held-held.ensures c.without.ensures (c.is_empty-in-loop-steps.ensures.none c.if-not-is_empty.false)
    c.holders_of-layer.ensures.from c.holders_of-layer.ensures.all c.united-seen.ensures c.united-reached.ensures
