use Rattle.law_missing.proofs.DeepRows.{letter_misses_p_law}
use Rattle.law_missing.proofs.rows.letter_misses_p_law.Goals as goal

pub returns : goal.returns
returns c = letter_misses_p_law
