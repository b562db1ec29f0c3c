use Rattle.law_missing.proofs.SectionRows.{text_behind_head_law}
use Rattle.law_missing.proofs.rows.text_behind_head_law.Goals as goal

pub returns : goal.returns
returns c = text_behind_head_law
