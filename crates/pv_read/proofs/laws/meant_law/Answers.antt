use Rattle.pv_read.proofs.AgreeDocuments.{document_means}
use Rattle.pv_read.proofs.AgreeItems.{items_are_one}
use Rattle.pv_read.proofs.laws.meant_law.Goals as goal

pub returns : goal.returns
returns c = λ limits m root bytes doc. document_means limits m root bytes doc items_are_one
