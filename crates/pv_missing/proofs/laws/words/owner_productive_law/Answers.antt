use Rattle.pv_missing.proofs.PossibleWords.{owner_productive}
use Rattle.pv_missing.proofs.laws.words.owner_productive_law.Goals as goal

pub returns : goal.returns
returns c = owner_productive
