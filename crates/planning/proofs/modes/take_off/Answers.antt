use Rattle.std.proofs.Common.{◌<◌, drop, inl, inr, arith}
use mathlib.Core.Path.{fun_ext}
use Rattle.std.proofs.lemmas.Bool.{cases_lt}
use Rattle.std.proofs.lemmas.List.{length-take}
use Rattle.matching.specs.Answers.{mate_of}
use Rattle.lines.proofs.Rows.{cells_first, cells_before, cells_behind}
use Rattle.planning.proofs.modes.take_off.Goals as goal

pub take_at-requires : goal.take_at-requires
take_at-requires c =
    let n = c.count.result in
    let p = c.args.p.now in
    let i = c.loop-i.i in
    let l : i < n = omega (arith, length-take n p) in
    let j = mate_of c.args.mates.now i in
    rw c.mate.ensures (record {
      size = omega (arith, c.requires.inside i (omega arith));
      enough = omega (arith, c.requires.enough i (omega arith), c.loop-i.invariant.1 i j (omega arith), cells_first n p i j l);
    })

pub returns : goal.returns
returns c =
    let n = c.count.result in
    let p = c.args.p.now in
    let long = length-take n p in
    fun_ext (λ x. fun_ext (λ y. elim (cases_lt x n) [
      | inl l ↦ omega (arith, cells_before c.loop-i.row-items (drop n p) x y (omega (arith, long)), c.loop-i.invariant.0 x y (omega (arith, long)), cells_first n p x y l)
      | inr over ↦ omega (arith, cells_behind c.loop-i.row-items p n x y (omega (arith, long)) over, c.requires.blank x y (inl (omega arith)))
    ]))
