use Rattle.pv_missing.proofs.PossibleWords.{left_out}
use Rattle.pv_missing.proofs.laws.words.left_out_law.Goals as goal

pub returns : goal.returns
returns c = left_out
