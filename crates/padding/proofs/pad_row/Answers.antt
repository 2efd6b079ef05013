use Rattle.std.proofs.Common.{◌∙◌, arith, length-set, get_or-set_other, get_or-set_same}
use Rattle.padding.proofs.Rows.{visit_more}
use Rattle.padding.proofs.pad_row.Goals as goal

pub loop-j-preserved : goal.loop-j-preserved
loop-j-preserved c =
    let j = c.loop-j.j in
    let row = c.loop-j.row in
    let lacks = c.loop-j.lacks in
    let visit = c.visit-left.ensures in (
      visit_more j c.args.lack c.loop-j.left c.visit-left.result _ _ _ _ _ _ c.loop-j.invariant.0 visit.adds
          (get_or-set_same row j _ 0 (omega arith) ∙ visit.units)
          (λ k ne. get_or-set_other row j k _ 0 ne)
          (get_or-set_same lacks j _ 0 (omega arith) ∙ visit.lack)
          (λ k ne. get_or-set_other lacks j k _ 0 ne),
      length-set row j _ ∙ c.loop-j.invariant.1,
      length-set lacks j _ ∙ c.loop-j.invariant.2,
    )
