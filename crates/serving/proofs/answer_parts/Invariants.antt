use Rattle.serving.specs.Input.{Hears}
use Rattle.serving.proofs.answer_parts.Given as goal

abbrev pub invariant-loop : goal.invariant-loop
invariant-loop l = Hears l.initial.terminal → Hears l.terminal
