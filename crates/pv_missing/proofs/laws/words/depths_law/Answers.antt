use Rattle.pv_missing.proofs.PossibleWords.{depths}
use Rattle.pv_missing.proofs.laws.words.depths_law.Goals as goal

pub returns : goal.returns
returns c = depths
