use Rattle.law_missing.proofs.SectionRows.{text_alone_law}
use Rattle.law_missing.proofs.rows.text_alone_law.Goals as goal

pub returns : goal.returns
returns c = text_alone_law
