use Rattle.pv_tree.specs.Marks.{blank_mark}
use Rattle.pv_read.proofs.OneItem.{one_item}
use Rattle.pv_read.proofs.OneMeaning.{same_document_meaning}
use Rattle.pv_read.proofs.laws.one_meaning_law.Goals as goal

pub returns : goal.returns
returns c = λ limits root bytes o p. same_document_meaning one_item limits blank_mark root
