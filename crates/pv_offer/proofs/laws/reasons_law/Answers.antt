use Rattle.pv_offer.proofs.EditsOfAnyName.{reasons_alike}
use Rattle.pv_offer.proofs.laws.reasons_law.Goals as goal

pub returns : goal.returns
returns g c = reasons_alike _
