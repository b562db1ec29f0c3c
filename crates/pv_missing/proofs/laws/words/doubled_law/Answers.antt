use Rattle.pv_missing.proofs.PossibleWords.{doubled}
use Rattle.pv_missing.proofs.laws.words.doubled_law.Goals as goal

pub returns : goal.returns
returns c = doubled
