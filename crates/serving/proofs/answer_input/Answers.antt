use Rattle.serving.proofs.Hearing.{hears_none, ends_so}
use Rattle.serving.proofs.answer_input.Goals as goal

pub returns-in_ok-print_reply : goal.returns-in_ok-print_reply
returns-in_ok-print_reply c = ends_so c.end.result c.end.ensures.heard (c.in_ok-answer_parts.ensures (hears_none c.new-terminal.ensures))

pub returns-in_default : goal.returns-in_default
returns-in_default c = ends_so c.end.result c.end.ensures.heard (c.in_ok-answer_parts.ensures (hears_none c.new-terminal.ensures))
