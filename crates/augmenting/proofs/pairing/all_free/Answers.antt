use Rattle.augmenting.proofs.Seats.{no_holder}
use Rattle.augmenting.proofs.pairing.all_free.Goals as goal

pub returns : goal.returns
returns c = no_holder 16
