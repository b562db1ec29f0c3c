use Rattle.pv_missing.proofs.VerdictsByNumber.{verdicts_by_number}
use Rattle.pv_missing.proofs.laws.verdicts.verdict_zip_law.Goals as goal

pub returns : goal.returns
returns g c = verdicts_by_number _
