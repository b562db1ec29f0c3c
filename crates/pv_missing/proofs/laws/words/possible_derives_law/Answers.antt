use Rattle.pv_missing.proofs.PossibleSites.{possible_derives}
use Rattle.pv_missing.proofs.laws.words.possible_derives_law.Goals as goal

pub returns : goal.returns
returns c = possible_derives
