use Rattle.pv_tables.proofs.WeightSums.{live_weight}
use Rattle.pv_tables.proofs.laws.live_weight_law.Goals as goal

pub returns : goal.returns
returns g c = live_weight c.live_follows_law.ensures c.one_live_word_law.ensures _
