use Rattle.std.proofs.Common.{arith}
use Rattle.serving.proofs.Hearing.{hears_on_none, hears_on_more, hears_on_all}
use Rattle.serving.proofs.answer_bytes.Goals as goal

pub loop-byte-init : goal.loop-byte-init
loop-byte-init c = hears_on_none c.args.terminal.now

pub loop-byte-preserved : goal.loop-byte-preserved
loop-byte-preserved c =
    hears_on_more c.args.bytes.now c.loop-byte.byte-index c.take.result (omega arith) c.loop-byte.invariant c.take.ensures.heard

pub returns : goal.returns
returns c = hears_on_all c.args.bytes.now c.loop-byte.byte-index (omega arith) c.loop-byte.invariant
