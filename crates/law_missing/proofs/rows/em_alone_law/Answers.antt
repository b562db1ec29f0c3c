use Rattle.law_missing.proofs.SectionRows.{em_alone_law}
use Rattle.law_missing.proofs.rows.em_alone_law.Goals as goal

pub returns : goal.returns
returns c = em_alone_law
