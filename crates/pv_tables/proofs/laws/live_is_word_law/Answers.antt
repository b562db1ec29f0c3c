use Rattle.pv_tables.proofs.WeightSums.{same_word}
use Rattle.pv_tables.proofs.laws.live_is_word_law.Goals as goal

pub returns : goal.returns
returns g c = λ h root list live l is. same_word c.live_follows_law.ensures c.one_live_word_law.ensures _ h root list.owner list.kids live l is
