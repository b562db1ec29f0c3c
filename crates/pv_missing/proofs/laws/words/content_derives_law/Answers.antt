use Rattle.pv_missing.proofs.SpanDerivations.{content_weights}
use Rattle.pv_missing.proofs.laws.words.content_derives_law.Goals as goal

pub returns : goal.returns
returns c = content_weights
