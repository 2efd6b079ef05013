use Rattle.std.proofs.Common.{arith}
use Rattle.std.proofs.lemmas.List.{get_or_default}
use Rattle.lines.specs.Matrix.{downlink}
use Rattle.matching.specs.Answers.{unused}
use Rattle.planning.proofs.modes.mate.Goals as goal

pub returns : goal.returns
returns c = get_or_default c.args.mates.now c.args.i (downlink 0) unused (omega arith)
