use Rattle.pv_offer.proofs.EditsOfAnyName.{renames_within}
use Rattle.pv_offer.proofs.laws.renames_law.Goals as goal

pub returns : goal.returns
returns g c = renames_within _ c.list_at_law.ensures
