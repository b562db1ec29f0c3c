use Rattle.law_missing.proofs.DoublingRows.{many_missing_law}
use Rattle.law_missing.proofs.rows.many_missing_law.Goals as goal

pub returns : goal.returns
returns c = many_missing_law
