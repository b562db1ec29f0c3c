use Rattle.pv_standoff.proofs.SomeDocument.{has_document}
use Rattle.pv_standoff.proofs.laws.has_document_law.Goals as goal

pub returns : goal.returns
returns c = has_document
