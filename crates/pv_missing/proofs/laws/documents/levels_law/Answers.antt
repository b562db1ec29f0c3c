use Rattle.pv_missing.proofs.InsertionLevels.{levels_agree}
use Rattle.pv_missing.proofs.laws.documents.levels_law.Goals as goal

pub returns : goal.returns
returns c = levels_agree
