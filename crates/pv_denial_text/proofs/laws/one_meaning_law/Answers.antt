use Rattle.pv_denial_text.proofs.OneMeaning.{one-meaning}
use Rattle.pv_denial_text.proofs.laws.one_meaning_law.Goals as goal

pub returns : goal.returns
returns c = one-meaning
