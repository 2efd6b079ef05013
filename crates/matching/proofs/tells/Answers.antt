use Rattle.std.proofs.Common.{subst}
use Rattle.lines.specs.Sets.{has}
use Rattle.matching.specs.Answers.{Right, mate_of}
use Rattle.matching.specs.Supports.{in_rows}
use Rattle.matching.specs.declared.EngineAnswer.{EngineAnswer}
use Rattle.matching.proofs.Halls.{matching_settles, witness_settles}
use Rattle.matching.proofs.tells.Goals as goal

pub returns-in-Matching : goal.returns-in-Matching
returns-in-Matching c =
    let P : EngineAnswer → Type 0 = Right c.args.n c.args.rows in
    matching_settles c.args.n (in_rows c.args.rows) (mate_of c.in-Matching.field-0) (subst P c.in-Matching.is c.requires).0

pub returns-in-Witness : goal.returns-in-Witness
returns-in-Witness c =
    let P : EngineAnswer → Type 0 = Right c.args.n c.args.rows in
    witness_settles c.args.n (in_rows c.args.rows) (has c.in-Witness.field-0) (subst P c.in-Witness.is c.requires)
