use Rattle.pv_cert.proofs.OneMeaning.{one-meaning}
use Rattle.pv_cert.proofs.laws.one_meaning_law.Goals as goal

pub returns : goal.returns
returns c = one-meaning
