use Rattle.law_missing.proofs.SectionRows.{head_behind_sec_law}
use Rattle.law_missing.proofs.rows.head_behind_sec_law.Goals as goal

pub returns : goal.returns
returns c = head_behind_sec_law
