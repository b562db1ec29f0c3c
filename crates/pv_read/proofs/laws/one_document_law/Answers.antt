use Rattle.pv_tree.specs.Marks.{blank_mark}
use Rattle.pv_read.proofs.OneDocument.{one_document}
use Rattle.pv_read.proofs.laws.one_document_law.Goals as goal

pub returns : goal.returns
returns c = one_document blank_mark
