use Rattle.pv_read.proofs.Agreement.{spelled_where_meant, meant_where_spelled}
use Rattle.pv_read.proofs.laws.agreement_law.Goals as goal

pub returns : goal.returns
returns c = λ limits m root bytes doc. (spelled_where_meant m root bytes doc, λ both. meant_where_spelled limits m root bytes doc both.0 both.1)
