use Rattle.pv_rules.proofs.FlatNumbers.{flat_by_number}
use Rattle.pv_rules.proofs.laws.flat_law.Goals as goal

pub returns : goal.returns
returns c = flat_by_number
