use Rattle.pv_missing.proofs.ListDerivations.{closed_is_bound}
use Rattle.pv_missing.proofs.laws.lists.closed_is_bound_law.Goals as goal

pub returns : goal.returns
returns g c = closed_is_bound _
