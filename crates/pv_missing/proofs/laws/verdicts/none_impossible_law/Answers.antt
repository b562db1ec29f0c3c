use Rattle.pv_missing.proofs.NoImpossibleLists.{none_impossible}
use Rattle.pv_missing.proofs.laws.verdicts.none_impossible_law.Goals as goal

pub returns : goal.returns
returns g c = none_impossible _
