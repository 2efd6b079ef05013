use Rattle.schedule.proofs.Modes.{no_shorter}
use Rattle.schedule.proofs.Shops.{no_shorter_shop, no_shorter_parts}
use Rattle.schedule.proofs.Unfolded.{unfolds}
use Rattle.schedule.proofs.length.Goals as goal

pub returns-clause-no_shorter : goal.returns-clause-no_shorter
returns-clause-no_shorter c = no_shorter

pub returns-clause-no_shorter_shop : goal.returns-clause-no_shorter_shop
returns-clause-no_shorter_shop c = no_shorter_shop

pub returns-clause-no_shorter_parts : goal.returns-clause-no_shorter_parts
returns-clause-no_shorter_parts c = no_shorter_parts

pub returns-clause-unfolds : goal.returns-clause-unfolds
returns-clause-unfolds c = unfolds
