use Rattle.pv_dtd.proofs.TextMeaning.{one_meaning}
use Rattle.pv_dtd.proofs.laws.one_meaning_law.Goals as goal

pub returns : goal.returns
returns c = one_meaning
