use Rattle.std.proofs.Common.{◌≡◌, ℕ, ◌<◌, vec_items, sym, refl, ap, ◌∙◌, subst, arith}
use Rattle.lines.specs.Matrix.{busiest}
use Rattle.owed.specs.declared.matrix.Owed.{Owed}
use Rattle.owed.specs.Calls.{lines_of, units_of}
use Rattle.planning.specs.Making.{MadeBy}
use Rattle.planning.proofs.Hall.{no_witness}
use Rattle.planning.proofs.Serving.{Fit, best}
use Rattle.planning.proofs.Keeping.{kept}
use Rattle.planning.proofs.Going.{going, goes_on, step_lasts, gone}
use Rattle.planning.proofs.make.plan_from.Goals as goal

pub loop-rest-init : goal.loop-rest-init
loop-rest-init g c = (c.new-rest.ensures.lines, going g.E.Engine.may (lines_of c.args.owed.now) (units_of c.args.owed.now) c.new-rest.result (vec_items c.new-modes.result) c.new-rest.ensures c.new-modes.ensures.items)

pub loop-rest-smaller : goal.loop-rest-smaller
loop-rest-smaller g c = omega (arith, c.next_mode-mode.ensures.left, step_lasts g.E.Engine.may g.met.E.Engine.right c.loop-rest.rest c.next_mode-mode.new.self c.next_mode-mode.result c.next_mode-mode.ensures)

pub loop-rest-preserved : goal.loop-rest-preserved
loop-rest-preserved g c = (
  c.next_mode-mode.ensures.lines ∙ c.loop-rest.invariant.0,
  goes_on g.E.Engine.may (units_of c.args.owed.now) c.loop-rest.rest c.next_mode-mode.new.self (vec_items c.loop-rest.modes) c.next_mode-mode.result (omega arith) c.next_mode-mode.ensures c.loop-rest.invariant.1 (vec_items c.push.new.self) c.in_ok-push.ensures.items,
)

fits : (owed : Owed) (n : ℕ) → n ≡ lines_of owed → 0 < busiest (lines_of owed) (units_of owed) → Fit n (units_of owed)
fits owed n is owes = rw is (record { some = omega arith; few = omega arith; owes = owes; short = omega arith })

pub invariant_of-result : goal.invariant_of-result
invariant_of-result g c =
    let n = c.line_count.result.count in
    let m = units_of c.args.owed.now in
    let done = vec_items c.loop-rest.modes in
    let made = subst (λ n. MadeBy g.E.Engine.may n m done) (c.loop-rest.invariant.0 ∙ sym c.line_count.ensures) (gone g.E.Engine.may m c.loop-rest.rest done (omega arith) c.loop-rest.invariant.1) in
    let k = kept g.E.Engine.may g.met.E.Engine.right n c.busiest.result m done (fits c.args.owed.now n c.line_count.ensures c.requires) (c.busiest.ensures ∙ ap (λ n. busiest n m) (sym c.line_count.ensures)) made in
    record {
      some_mode = k.some_mode;
      few_modes = k.few_modes;
      dwells = k.dwells;
      fits = k.lines;
      units = k.units;
      single = k.single;
      rows = k.rows;
      total = k.total;
      short = k.short;
    }

pub returns : goal.returns
returns g c =
    let n = lines_of c.args.owed.now in
    let m = units_of c.args.owed.now in
    let done = vec_items c.loop-rest.modes in
    let made = subst (λ n. MadeBy g.E.Engine.may n m done) c.loop-rest.invariant.0 (gone g.E.Engine.may m c.loop-rest.rest done (omega arith) c.loop-rest.invariant.1) in
    record {
      lines = c.line_count.ensures;
      made_by = made;
      best = best g.E.Engine.may g.met.E.Engine.right n m done (fits c.args.owed.now n refl c.requires) made;
      hall = no_witness;
    }
