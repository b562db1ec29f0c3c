use Rattle.pv_missing.proofs.DocLists.{live_locality}
use Rattle.pv_missing.proofs.laws.documents.live_lists_law.Goals as goal

pub returns : goal.returns
returns g c = live_locality _
