use Rattle.std.proofs.Common.{cond, List, drop, sym, refl, ap, ◌∙◌}
use Rattle.std.proofs.lemmas.List.{take_rest}
use Rattle.schedule.specs.declared.Mode.{Mode}
use Rattle.planning.specs.Plans.{plan_modes}
use Rattle.law.specs.States.{idle, planned, stands}
use Rattle.session.proofs.Written.{writes_idle, none_stands, writes, writes_not}
use Rattle.session.proofs.state.Session.write.Goals as goal

pub returns-in_default : goal.returns-in_default
returns-in_default g c = writes_idle g.S.Switch.meaning c.args.self.now _ (none_stands _ _ _ _ c.in_default.is refl)

pub returns-then-not-agrees : goal.returns-then-not-agrees
returns-then-not-agrees g c =
    let p = c.in-Planned in
    writes_idle g.S.Switch.meaning c.args.self.now _
    (none_stands _ _ _ _ p.is (ap (λ b. stands (cond b (planned p.place (drop p.place (plan_modes p.plan))) idle)) (sym c.agrees.ensures ∙ c.if-not-agrees.true)))

pub returns-in_err-write_modes : goal.returns-in_err-write_modes
returns-in_err-write_modes g c =
    let p = c.in-Planned in
    writes_not g.S.Switch.meaning c.args.self.now p.plan p.place p.left p.is (sym c.agrees.ensures ∙ c.if-not-agrees.false) c.lines.result c.lines.ensures _ (take_rest c.modes.result.now p.place ∙ ap (λ (l : List Mode). drop p.place l) c.modes.ensures)
    c.args.out.now c.write_modes.new.out c.write_modes.ensures.after _ c.in_err-write_modes.ensures.answer c.from_residual.result _ c.from_residual.ensures.1 (λ d e. e)

pub returns : goal.returns
returns g c =
    let p = c.in-Planned in
    writes g.S.Switch.meaning c.args.self.now p.plan p.place p.left p.is (sym c.agrees.ensures ∙ c.if-not-agrees.false) c.lines.result c.lines.ensures _ (take_rest c.modes.result.now p.place ∙ ap (λ (l : List Mode). drop p.place l) c.modes.ensures)
    c.args.out.now c.write_modes.new.out c.write_modes.ensures.after c.in_ok-write_modes.field-0 c.in_ok-write_modes.ensures.answer
