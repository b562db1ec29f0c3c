use Rattle.law_free.proofs.ShortDerivations.{live_derives_nothing}
use Rattle.law_free.proofs.laws.live_law.Goals as goal

pub returns : goal.returns
returns c = live_derives_nothing
