use Rattle.pv_missing.proofs.Verdict.{one_verdict}
use Rattle.pv_missing.proofs.laws.lists.one_verdict_law.Goals as goal

pub returns : goal.returns
returns g c = one_verdict _
