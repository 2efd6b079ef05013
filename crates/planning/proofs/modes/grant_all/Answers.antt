use Rattle.std.proofs.Common.{take, drop, sym, ap, ◌∙◌, inl, inr, arith}
use mathlib.Core.Path.{fun_ext}
use Rattle.std.proofs.lemmas.Bool.{cases_lt}
use Rattle.std.proofs.lemmas.List.{length-take}
use Rattle.lines.specs.Matrix.{cells}
use Rattle.matching.specs.Answers.{mate_of}
use Rattle.schedule.specs.Modes.{units_to}
use Rattle.lines.proofs.Rows.{cells_first, cells_before, cells_behind}
use Rattle.planning.proofs.Grants.{row_is, no_grant, same_grant}
use Rattle.planning.proofs.modes.grant_all.Goals as goal

pub returns : goal.returns
returns c =
    let n = c.count.result in
    let q = c.args.q.now in
    let long = length-take n q in
    record {
      row =
          row_is c.args.lines.count c.args.dwell (cells q) c.args.mates.now c.loop-i.grants c.loop-i.invariant.3
          (λ k l. elim (cases_lt k n) [
            | inl lk ↦ c.loop-i.invariant.0 k (omega (arith, long)) ∙ same_grant c.args.lines.count c.args.dwell (cells (take n q)) c.args.mates.now (omega arith) (cells q) k (cells_first n q k (mate_of c.args.mates.now k) lk)
            | inr over ↦ c.loop-i.invariant.1 k (omega (arith, long)) ∙ sym (no_grant c.args.lines.count c.args.dwell (cells q) c.args.mates.now (omega arith) k (omega arith))
          ]);
      left = fun_ext (λ x. fun_ext (λ y. elim (cases_lt x n) [
        | inl l ↦ omega (arith, cells_before c.loop-i.row-items (drop n q) x y (omega (arith, long)), c.loop-i.invariant.2 x y, cells_first n q x y l)
        | inr over ↦ omega (arith, cells_behind c.loop-i.row-items q n x y (omega (arith, long)) over, ap (units_to y) (c.loop-i.invariant.1 x (omega (arith, long))))
      ]));
    }
