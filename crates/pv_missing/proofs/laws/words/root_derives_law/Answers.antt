use Rattle.pv_missing.proofs.SpanDerivations.{root_weights}
use Rattle.pv_missing.proofs.laws.words.root_derives_law.Goals as goal

pub returns : goal.returns
returns c = root_weights
