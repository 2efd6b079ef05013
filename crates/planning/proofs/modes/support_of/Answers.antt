use Rattle.std.proofs.Common.{ℕ, ◌<◌, List, [], ltb, sym, ap, ◌∙◌, get_or, inl, inr, arith, length-set, get_or-set_other, get_or-set_same}
use Rattle.std.proofs.lemmas.Bool.{cases_eq, cases_lt, lt-ltb, le-ltb, cond-true, cond-false}
use Rattle.std.proofs.lemmas.List.{get_or-take, length-take}
use Rattle.lines.specs.Matrix.{cells}
use Rattle.planning.specs.Supports.{support, in_bits}
use Rattle.planning.proofs.Bits.{rows_are, row_wider}
use Rattle.planning.proofs.modes.support_of.Goals as goal

pub loop-i-preserved : goal.loop-i-preserved
loop-i-preserved c =
    let n = c.count.result in
    let p = c.args.p.now in
    let l : c.loop-i.i < n = omega (arith, length-take n p) in
    let same = ap (λ (row : List ℕ). in_bits 16 (λ j. ltb 0 (get_or row j 0))) (get_or-take n p c.loop-i.i [] l) in (
      (λ k lk. elim (cases_eq k c.loop-i.i) [
        | inl e ↦ rw e (get_or-set_same c.loop-i.rows c.loop-i.i c.support_row.result 0 (omega arith) ∙ c.support_row.ensures ∙ same)
        | inr ne ↦ get_or-set_other c.loop-i.rows c.loop-i.i k c.support_row.result 0 ne ∙ c.loop-i.invariant.0 k (omega arith)
      ]),
      (λ k over. get_or-set_other c.loop-i.rows c.loop-i.i k c.support_row.result 0 (λ e. omega arith) ∙ c.loop-i.invariant.1 k (omega arith)),
      length-set c.loop-i.rows c.loop-i.i c.support_row.result ∙ c.loop-i.invariant.2,
    )

pub returns : goal.returns
returns c =
    let n = c.args.lines.count in
    let p = cells c.args.p.now in
    let long = length-take c.count.result c.args.p.now in
    rows_are n p c.loop-i.rows c.loop-i.invariant.2
    (λ k l. elim (cases_lt k n) [
      | inl lk ↦ c.loop-i.invariant.0 k (omega (arith, long)) ∙ row_wider n p (omega arith) c.requires k ∙ sym (cond-true (ltb k n) (in_bits n (support p k)) 0 (lt-ltb k n lk))
      | inr over ↦ c.loop-i.invariant.1 k (omega (arith, long)) ∙ sym (cond-false (ltb k n) (in_bits n (support p k)) 0 (le-ltb k n over))
    ])
