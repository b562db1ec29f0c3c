use Rattle.pv_tables.proofs.WeightSums.{possible_weights}
use Rattle.pv_tables.proofs.laws.possible_weights_law.Goals as goal

pub returns : goal.returns
returns g c = possible_weights c.live_follows_law.ensures c.one_live_word_law.ensures _ c.valid_misses_none_law.ensures c.live_lists_law.ensures c.weights_add_up_law.ensures
