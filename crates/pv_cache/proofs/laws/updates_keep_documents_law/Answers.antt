use Rattle.pv_cache.proofs.MarksAlone.{doc-as}
use Rattle.pv_cache.proofs.laws.updates_keep_documents_law.Goals as goal

pub returns : goal.returns
returns c = doc-as
