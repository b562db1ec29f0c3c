use Rattle.pv_offer.proofs.EditsOfAnyName.{tried_as_offered}
use Rattle.pv_offer.proofs.laws.tried_law.Goals as goal

pub returns : goal.returns
returns c = tried_as_offered c.accepted_law.ensures
