use Rattle.law.proofs.Law.{every_list}
use Rattle.law.proofs.One.{one_answer}
use Rattle.law.proofs.Shortfalls.{report_is_lowest}
use Rattle.law.proofs.stands.law_holds.Goals as goal

pub returns : goal.returns
returns g c = record { law = every_list g.P.Planning.makes g.P.Planning.good; single = one_answer g.P.Planning.makes; lowest = report_is_lowest }
