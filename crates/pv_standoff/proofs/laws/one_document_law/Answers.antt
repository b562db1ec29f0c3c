use Rattle.pv_standoff.proofs.OneDocument.{one_document}
use Rattle.pv_standoff.proofs.laws.one_document_law.Goals as goal

pub returns : goal.returns
returns c = one_document
