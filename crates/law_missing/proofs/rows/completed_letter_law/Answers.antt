use Rattle.law_missing.proofs.DeepRows.{completed_letter_law}
use Rattle.law_missing.proofs.rows.completed_letter_law.Goals as goal

pub returns : goal.returns
returns c = completed_letter_law
