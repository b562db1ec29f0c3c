use Rattle.pv_missing.proofs.VerdictWords.{verdict_by_word}
use Rattle.pv_missing.proofs.laws.verdicts.verdict_by_word_law.Goals as goal

pub returns : goal.returns
returns g c = verdict_by_word _
