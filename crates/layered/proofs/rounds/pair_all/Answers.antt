use Rattle.std.proofs.Common.{ℕ, subst, arith}
use Rattle.std.proofs.lemmas.Result.{err_from_is_err_and}
use Rattle.matching.specs.Answers.{Right}
use Rattle.matching.specs.declared.EngineAnswer.TheVariants.{Matching, Witness}
use Rattle.layered.proofs.Rests.{tally_more, fewer_idle, reached_witness}
use Rattle.augmenting.proofs.Ends.{matching_right}
use Rattle.layered.proofs.rounds.pair_all.Goals as goal

pub loop-cut-smaller : goal.loop-cut-smaller
loop-cut-smaller c = fewer_idle c.within-cut.result c.loop-cut.pairing.holders c.round.new.pairing.holders c.loop-cut.idle c.in_ok-idle.idle c.in_ok-idle.ensures

pub loop-cut-preserved : goal.loop-cut-preserved
loop-cut-preserved c =
    tally_more c.count-n.result c.within-cut.result c.loop-cut.pairing.holders c.round.new.pairing.holders c.loop-cut.idle c.in_ok-idle.idle (omega arith) c.loop-cut.invariant c.in_ok-idle.ensures

pub returns-in_err-idle : goal.returns-in_err-idle
returns-in_err-idle c =
    let k = c.is_empty.ensures.some c.loop-cut-test.true in
    let reached = c.in_err-idle.field-0.0 in
    let P : ℕ → Type 0 = λ n. Right n c.args.rows (Witness reached) in
    let p = err_from_is_err_and c.from_residual.result c.from_residual.ensures.1 in
    rw (p.1, p.2) (subst P c.count-n.ensures
    (reached_witness c.count-n.result c.args.rows c.within-cut.result c.loop-cut.pairing.holders c.loop-cut.idle reached k.0
    (omega arith) c.within-cut.ensures c.loop-cut.pairing.apart c.loop-cut.invariant k.2 c.in_err-idle.ensures.1))

pub returns : goal.returns
returns c = λ mates m.
    let P : ℕ → Type 0 = λ n. Right n c.args.rows (Matching mates) in
    subst P c.count-n.ensures
    (matching_right c.count-n.result c.args.rows c.within-cut.result c.loop-cut.pairing.holders (omega arith) c.within-cut.ensures c.loop-cut.invariant.edges c.loop-cut.pairing.apart
    mates (λ u lu. c.loop-cut.invariant.some u lu (c.is_empty.ensures.none c.loop-cut-test.false u)) m)
