use Rattle.pv_dtd.proofs.ProperDtds.{proper}
use Rattle.pv_dtd.proofs.laws.proper_dtd_law.Goals as goal

pub returns : goal.returns
returns c = proper c.args._dtd.now
