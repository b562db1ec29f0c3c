use Rattle.pv_missing.proofs.Tags.{has_tags}
use Rattle.pv_missing.proofs.laws.documents.has_tags_law.Goals as goal

pub returns : goal.returns
returns c = has_tags
