use Rattle.pv_missing.proofs.NoPossibleLists.{none_possible}
use Rattle.pv_missing.proofs.laws.verdicts.none_possible_law.Goals as goal

pub returns : goal.returns
returns g c = none_possible _
