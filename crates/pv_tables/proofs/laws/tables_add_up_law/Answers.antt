use Rattle.pv_tables.proofs.TableTotals.{tables_add_up}
use Rattle.pv_tables.proofs.laws.tables_add_up_law.Goals as goal

pub returns : goal.returns
returns g c = tables_add_up _ c.live_follows_law.ensures c.one_live_word_law.ensures c.valid_misses_none_law.ensures c.lists_ascend_law.ensures c.live_lists_law.ensures c.weights_add_up_law.ensures
