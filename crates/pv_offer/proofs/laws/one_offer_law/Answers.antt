use Rattle.pv_offer.proofs.ChosenNames.{one_pick}
use Rattle.pv_offer.proofs.laws.one_offer_law.Goals as goal

pub returns : goal.returns
returns c s ask names others a b = one_pick a b
