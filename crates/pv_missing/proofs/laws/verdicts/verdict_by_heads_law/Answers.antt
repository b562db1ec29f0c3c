use Rattle.pv_missing.proofs.VerdictHeads.{verdict_by_heads}
use Rattle.pv_missing.proofs.laws.verdicts.verdict_by_heads_law.Goals as goal

pub returns : goal.returns
returns g c = verdict_by_heads _ _
