use Rattle.std.proofs.Common.{take}
use Rattle.serving.specs.Input.{HearsOn}
use Rattle.serving.proofs.answer_bytes.Given as goal

abbrev pub invariant-loop-byte : goal.invariant-loop-byte
invariant-loop-byte l = HearsOn l.initial.terminal (take l.byte-index l.bytes) l.terminal
