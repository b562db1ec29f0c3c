use Rattle.pv_missing.proofs.KeptLeaves.{completions_insert}
use Rattle.pv_missing.proofs.laws.documents.completions_insert_law.Goals as goal

pub returns : goal.returns
returns g c = completions_insert _ _
