use Rattle.pv_missing.proofs.ListDerivations.{derivations_miss}
use Rattle.pv_missing.proofs.laws.lists.derivations_miss_law.Goals as goal

pub returns : goal.returns
returns g c = derivations_miss _
