use Rattle.pv_missing.proofs.KeptLeaves.{keeps_leaves}
use Rattle.pv_missing.proofs.laws.documents.keeps_leaves_law.Goals as goal

pub returns : goal.returns
returns c = keeps_leaves
