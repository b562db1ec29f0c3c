use Rattle.law_missing.proofs.SectionRows.{missing_root_law}
use Rattle.law_missing.proofs.rows.missing_root_law.Goals as goal

pub returns : goal.returns
returns c = missing_root_law
