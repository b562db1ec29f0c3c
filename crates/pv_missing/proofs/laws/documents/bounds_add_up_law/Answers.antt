use Rattle.pv_missing.proofs.Weights.{bounds_add_up}
use Rattle.pv_missing.proofs.laws.documents.bounds_add_up_law.Goals as goal

pub returns : goal.returns
returns g c = bounds_add_up _
