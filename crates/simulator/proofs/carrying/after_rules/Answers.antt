use Rattle.std.proofs.Common.{◌≡◌, rules}
use Rattle.simulator.specs.Faults.{kept}
use Rattle.simulator.proofs.Limits.{kept_smallest}
use Rattle.simulator.proofs.carrying.after_rules.Goals as goal

pub returns-clause-smallest : goal.returns-clause-smallest
returns-clause-smallest c =
    let is : c.fold.result ≡ kept c.args.rules.now c.args.clock c.args.up.0 c.args.down.0 c.args.units = search rules in
    rw is (kept_smallest c.args.clock c.args.up.0 c.args.down.0 c.args.rules.now c.args.units)
