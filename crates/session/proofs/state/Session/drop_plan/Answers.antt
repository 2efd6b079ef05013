use Rattle.std.proofs.Common.{None, refl, ap, ◌∙◌}
use Rattle.law.specs.declared.call.Call.TheVariants.{Drop}
use Rattle.law.specs.declared.decline.SessionDecline.TheVariants.{NoPlan}
use Rattle.law.proofs.Said.{says_9}
use Rattle.session.specs.Standing.{standing}
use Rattle.session.specs.Sessions.{state_of}
use Rattle.session.proofs.Acting.{from_same, declines}
use Rattle.session.proofs.state.Session.drop_plan.Goals as goal

pub returns-in_default : goal.returns-in_default
returns-in_default g c =
    let r = state_of g.S.Switch.meaning c.refresh.new.self in
    from_same c.refresh.ensures.same (declines Drop NoPlan r r (λ size. says_9 r.plan None (c.refresh.ensures.plan ∙ ap standing c.in_default.is)) refl)
