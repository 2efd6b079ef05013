use Rattle.std.proofs.Common.{◌≡◌, ℕ, ◌<◌, take, ap, ◌∙◌, arith}
use Rattle.std.proofs.lemmas.List.{length-take}
use Rattle.lines.specs.declared.Downlink.{Downlink}
use Rattle.lines.specs.Matrix.{cells}
use Rattle.matching.specs.Answers.{mate_of}
use Rattle.planning.proofs.Rounds.{smallest_le, smallest_next}
use Rattle.lines.proofs.Rows.{cells_first}
use Rattle.planning.proofs.rest.Rest.dwell_for.Goals as goal

pub loop-i-preserved : goal.loop-i-preserved
loop-i-preserved c =
    let n = c.count.result in
    let p = c.args.self.now.padded in
    let i = c.loop-i.i in
    let l : i < n = omega (arith, length-take n p) in
    let f : ℕ → ℕ = λ k. cells p k (mate_of c.args.mates.now k) in
    let same = ap (cells (take n p) i) (c.from.ensures ∙ ap (λ (d : Downlink). d.0) c.mate.ensures) in
    ((λ z. absurd (omega arith)), (λ _. smallest_next i f c.loop-i.least _ (c.requires.small i (omega arith)) c.loop-i.invariant.0 c.loop-i.invariant.1 (omega (arith, same, cells_first n p i (mate_of c.args.mates.now i) l))))

pub overflow_cast-result : goal.overflow_cast-result
overflow_cast-result c =
    let n = c.count.result in
    let p = c.args.self.now.padded in
    let f : ℕ → ℕ = λ k. cells p k (mate_of c.args.mates.now k) in
    omega (arith, length-take n p, c.loop-i.invariant.1 (omega (arith, length-take n p)), smallest_le c.loop-i.i f 0 (omega (arith, length-take n p)), c.requires.small 0 (omega arith))

pub returns : goal.returns
returns c =
    let long = length-take c.count.result c.args.self.now.padded in
    let all : c.loop-i.i ≡ c.args.self.now.lines.count = omega (arith, long) in
    rw all at c.loop-i.invariant.1 (omega (arith, long))
