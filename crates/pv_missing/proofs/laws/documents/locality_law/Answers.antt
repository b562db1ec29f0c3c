use Rattle.pv_missing.proofs.DocLists.{verdict_locality}
use Rattle.pv_missing.proofs.laws.documents.locality_law.Goals as goal

pub returns : goal.returns
returns g c = verdict_locality _
