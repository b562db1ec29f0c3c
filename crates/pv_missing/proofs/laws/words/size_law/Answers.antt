use Rattle.pv_missing.proofs.Sizes.{size_is_missing}
use Rattle.pv_missing.proofs.laws.words.size_law.Goals as goal

pub returns : goal.returns
returns c = size_is_missing
