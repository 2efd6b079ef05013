use Rattle.steps.proofs.Told.{told_all}
use Rattle.steps.proofs.finish.Goals as goal

pub returns : goal.returns
returns g c =
    let m = g.S.Switch.meaning in
    told_all (m c.args.s.now) (m c.run.new.s) c.last_run.result c.requires c.run.ensures.after c.last_run.ensures.sixteen c.last_run.ensures.each
