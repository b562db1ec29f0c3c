use Rattle.pv_offer.proofs.EditsOfAnyName.{one_offer_ground}
use Rattle.pv_offer.proofs.laws.one_ground_law.Goals as goal

pub returns : goal.returns
returns c = one_offer_ground
