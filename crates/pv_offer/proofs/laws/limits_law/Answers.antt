use Rattle.pv_offer.proofs.EditsOfAnyName.{limits_alike}
use Rattle.pv_offer.proofs.laws.limits_law.Goals as goal

pub returns : goal.returns
returns g c = limits_alike _
