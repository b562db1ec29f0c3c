use Rattle.pv_missing.proofs.Cuts.{cuts}
use Rattle.pv_missing.proofs.laws.documents.cuts_law.Goals as goal

pub returns : goal.returns
returns g c = cuts _
