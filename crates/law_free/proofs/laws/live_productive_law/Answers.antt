use Rattle.law_free.proofs.ProductiveNames.{live_is_productive}
use Rattle.law_free.proofs.laws.live_productive_law.Goals as goal

pub returns : goal.returns
returns c = live_is_productive
