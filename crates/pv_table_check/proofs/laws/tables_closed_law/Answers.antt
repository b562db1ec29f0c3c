use Rattle.pv_table_check.proofs.MadeTables.{tables_closed}
use Rattle.pv_table_check.proofs.laws.tables_closed_law.Goals as goal

pub returns : goal.returns
returns g c = tables_closed c.entries_closed_law.ensures _ c.live_is_word_law.ensures c.known_word_law.ensures c.lists_ascend_law.ensures
