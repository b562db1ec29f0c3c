use Rattle.law_missing.proofs.PairRows.{one_missing_law}
use Rattle.law_missing.proofs.rows.one_missing_law.Goals as goal

pub returns : goal.returns
returns c = one_missing_law
