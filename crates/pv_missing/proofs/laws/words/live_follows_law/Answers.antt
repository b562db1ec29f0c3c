use Rattle.pv_missing.proofs.LiveFacts.{live_follows}
use Rattle.pv_missing.proofs.laws.words.live_follows_law.Goals as goal

pub returns : goal.returns
returns c = live_follows
