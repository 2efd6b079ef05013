use Rattle.serving.proofs.Hearing.{hears_after}
use Rattle.serving.proofs.answer_parts.Goals as goal

pub loop-preserved : goal.loop-preserved
loop-preserved c = λ h. hears_after _ c.in_ok-answer_bytes.ensures (c.loop.invariant h)
