use Rattle.law_missing.proofs.SectionRows.{comment_is_nothing_law}
use Rattle.law_missing.proofs.rows.comment_is_nothing_law.Goals as goal

pub returns : goal.returns
returns c = comment_is_nothing_law
