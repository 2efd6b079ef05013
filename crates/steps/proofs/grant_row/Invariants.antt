use Rattle.switch.specs.Calls.{mode}
use Rattle.steps.proofs.Turns.{SoFar}
use Rattle.steps.proofs.grant_row.Given as goal

abbrev pub invariant-loop-i : goal.invariant-loop-i
invariant-loop-i g l = SoFar (mode l.token.dwell l.row) l.i (g.S.Switch.meaning l.initial.s) (g.S.Switch.meaning l.s)
