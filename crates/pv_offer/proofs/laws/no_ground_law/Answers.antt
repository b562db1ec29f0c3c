use Rattle.pv_offer.proofs.EditsOfAnyName.{no_ground}
use Rattle.pv_offer.proofs.laws.no_ground_law.Goals as goal

pub returns : goal.returns
returns c = no_ground
