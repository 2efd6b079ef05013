use Rattle.matching.proofs.Halls.{not_both}
use Rattle.matching.proofs.never_both.Goals as goal

pub returns : goal.returns
returns c = not_both
