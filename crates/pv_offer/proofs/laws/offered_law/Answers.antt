use Rattle.pv_offer.proofs.ChosenNames.{offers_exactly}
use Rattle.pv_offer.proofs.laws.offered_law.Goals as goal

pub returns : goal.returns
returns c = offers_exactly
