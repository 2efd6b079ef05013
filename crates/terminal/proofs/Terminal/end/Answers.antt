use Rattle.terminal.proofs.Histories.{all_answered, last_answered}
use Rattle.terminal.proofs.Terminal.end.Goals as goal

pub returns-then-is_empty-clause-heard : goal.returns-then-is_empty-clause-heard
returns-then-is_empty-clause-heard c = λ script rs h. all_answered script rs c.args.self.now _ c.is_empty.ensures c.if-is_empty.true h

pub returns-clause-heard : goal.returns-clause-heard
returns-clause-heard c = λ script rs h. last_answered script rs c.args.self.now _ c.answer.result _ c.is_empty.ensures c.if-is_empty.false c.answer.ensures h
