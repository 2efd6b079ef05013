use Rattle.std.proofs.Common.{arith}
use Rattle.lines.specs.Matrix.{cells}
use Rattle.owed.proofs.Cells.{row_units, column_units}
use Rattle.lines.proofs.Loads.{load_busiest}
use Rattle.owed.proofs.matrix.Owed.load.Goals as goal

pub row_sum-requires : goal.row_sum-requires
row_sum-requires c =
    let o = c.args.self.now in
    let e = row_units o.lines.count o.rows o.blank c.from.result in
    let l = load_busiest o.lines.count c.args.line (cells o.rows) c.requires in
    grind (arith, e, l)

pub column_sum-requires-clause-small : goal.column_sum-requires-clause-small
column_sum-requires-clause-small c =
    let o = c.args.self.now in
    let e = column_units o.lines.count o.rows o.blank c.from-in-Down.result in
    let l = load_busiest o.lines.count c.args.line (cells o.rows) c.requires in
    grind (arith, e, l)

pub returns-in-Up-clause-sum : goal.returns-in-Up-clause-sum
returns-in-Up-clause-sum c =
    let o = c.args.self.now in
    let e = row_units o.lines.count o.rows o.blank c.from.result in
    grind (arith, e)

pub returns-in-Up-clause-small : goal.returns-in-Up-clause-small
returns-in-Up-clause-small c =
    let o = c.args.self.now in
    let e = row_units o.lines.count o.rows o.blank c.from.result in
    let l = load_busiest o.lines.count c.args.line (cells o.rows) c.requires in
    grind (arith, e, l)

pub returns-in-Down-clause-sum : goal.returns-in-Down-clause-sum
returns-in-Down-clause-sum c =
    let o = c.args.self.now in
    let e = column_units o.lines.count o.rows o.blank c.from-in-Down.result in
    grind (arith, e)

pub returns-in-Down-clause-small : goal.returns-in-Down-clause-small
returns-in-Down-clause-small c =
    let o = c.args.self.now in
    let e = column_units o.lines.count o.rows o.blank c.from-in-Down.result in
    let l = load_busiest o.lines.count c.args.line (cells o.rows) c.requires in
    grind (arith, e, l)
