use Rattle.pv_missing.proofs.ListDerivations.{weight_is_least}
use Rattle.pv_missing.proofs.laws.lists.weight_is_least_law.Goals as goal

pub returns : goal.returns
returns g c = weight_is_least _
