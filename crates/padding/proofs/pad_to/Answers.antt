use Rattle.std.proofs.Common.{◌<◌, ◌∙◌, arith}
use Rattle.std.proofs.lemmas.List.{length-take}
use Rattle.lines.specs.Matrix.{cells}
use Rattle.lines.proofs.Sums.{term_le_sum}
use Rattle.owed.specs.Calls.{lines_of, units_of}
use Rattle.owed.proofs.Busiest.{up_le_busiest}
use Rattle.owed.proofs.Cells.{row_set, row_kept}
use Rattle.padding.specs.Padding.{listed}
use Rattle.padding.proofs.Visits.{start, row_visited, all_visited, visited_blank}
use Rattle.padding.proofs.Fronts.{blank_rows, first_rows, other_rows}
use Rattle.padding.proofs.Padding.{padding}
use Rattle.padding.proofs.pad_to.Goals as goal

pub loop-i-init : goal.loop-i-init
loop-i-init c =
    let blank = blank_rows c.count.result _ _ c.rows-rows.result (omega arith) c.rows-rows.ensures c.args.owed.now.blank in
    start _ _ _ _ _ (first_rows c.count.result c.rows-rows.result blank ∙ c.rows-rows.ensures) c.down_lacks-lacks.ensures

pub pad_row-requires : goal.pad_row-requires
pad_row-requires c = λ k lk.
    let inside : c.loop-i.i < lines_of c.args.owed.now = omega (arith, length-take c.count.result c.rows-rows.result) in
    omega (arith, c.loop-i.invariant.rest c.loop-i.i k (omega arith), term_le_sum (lines_of c.args.owed.now) (units_of c.args.owed.now c.loop-i.i) k (omega arith), up_le_busiest (lines_of c.args.owed.now) (units_of c.args.owed.now) c.loop-i.i inside, c.lack-up.ensures inside, c.requires)

pub loop-i-preserved : goal.loop-i-preserved
loop-i-preserved c =
    let inside : c.loop-i.i < lines_of c.args.owed.now = omega (arith, length-take c.count.result c.rows-rows.result) in
    row_visited (lines_of c.args.owed.now) c.args.b (units_of c.args.owed.now) (cells c.loop-i.row-items) _ (listed c.loop-i.lacks) _ c.loop-i.i c.line_count-lines.result.count c.lack-up.result _ c.loop-i.invariant c.line_count-lines.ensures (c.lack-up.ensures inside) c.pad_row.ensures
    (λ y. row_set c.loop-i.row-items _ c.loop-i.i y (omega arith))
    (λ x y ne. row_kept c.loop-i.row-items _ c.loop-i.i x y ne)

pub returns : goal.returns
returns c =
    let n = lines_of c.args.owed.now in
    let m = units_of c.args.owed.now in
    let p = cells c.loop-i.row-items in
    let done = c.loop-i.invariant in
    let long = length-take c.count.result c.rows-rows.result in
    let blank = blank_rows c.count.result _ _ c.rows-rows.result (omega arith) c.rows-rows.ensures c.args.owed.now.blank in
    rw (other_rows c.count.result c.loop-i.row-items c.rows-rows.result (omega (arith, long)) blank)
    (padding n m p c.args.owed.now.blank
    (all_visited n c.args.b m p (listed c.loop-i.lacks) c.loop-i.i (omega (arith, long)) c.requires done)
    (visited_blank n c.args.b m p (listed c.loop-i.lacks) c.loop-i.i (omega (arith, long)) done c.args.owed.now.blank))
