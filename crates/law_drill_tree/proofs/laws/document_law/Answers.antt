use Rattle.law_drill_tree.proofs.DocumentText.{drill_document_text}
use Rattle.law_drill_tree.proofs.laws.document_law.Goals as goal

pub returns : goal.returns
returns c = drill_document_text
