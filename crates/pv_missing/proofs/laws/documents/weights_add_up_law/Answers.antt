use Rattle.pv_missing.proofs.Weights.{weights_add_up}
use Rattle.pv_missing.proofs.laws.documents.weights_add_up_law.Goals as goal

pub returns : goal.returns
returns g c = weights_add_up _
