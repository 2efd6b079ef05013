use Rattle.std.proofs.Common.{None, arith, rules}
use Rattle.lines.proofs.FromFn.{each_from_fn}
use Rattle.steps.specs.WholeMode.{seen}
use Rattle.steps.proofs.last_run.Goals as goal

pub returns-clause-each : goal.returns-clause-each
returns-clause-each g c = λ i l.
    each_from_fn _ _ (seen (g.S.Switch.meaning c.args.s.now)) (λ i y q call. search rules) c.from_fn.result 0 16 c.from_fn.ensures.items.each i None (omega arith) (omega arith)
