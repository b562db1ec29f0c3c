use Rattle.law_missing.proofs.SectionRows.{title_behind_p_law}
use Rattle.law_missing.proofs.rows.title_behind_p_law.Goals as goal

pub returns : goal.returns
returns c = title_behind_p_law
