use Rattle.pv_missing.proofs.Tags.{tags_extend}
use Rattle.pv_missing.proofs.laws.documents.tags_extend_law.Goals as goal

pub returns : goal.returns
returns c = tags_extend
