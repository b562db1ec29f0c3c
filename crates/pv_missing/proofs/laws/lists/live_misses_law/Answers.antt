use Rattle.pv_missing.proofs.DocLists.{live_misses}
use Rattle.pv_missing.proofs.laws.lists.live_misses_law.Goals as goal

pub returns : goal.returns
returns g c = live_misses _
