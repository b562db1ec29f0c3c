use Rattle.pv_missing.proofs.KeptLeaves.{extensions_complete}
use Rattle.pv_missing.proofs.laws.documents.extensions_complete_law.Goals as goal

pub returns : goal.returns
returns g c = extensions_complete _ _
