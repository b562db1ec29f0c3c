use Rattle.pv_edit.proofs.Texts.{new-text}
use Rattle.pv_edit.proofs.laws.new_text_law.Goals as goal

pub returns : goal.returns
returns c = new-text
