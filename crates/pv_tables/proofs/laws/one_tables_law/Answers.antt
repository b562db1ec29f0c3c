use Rattle.pv_tables.proofs.OneTables.{one_tables}
use Rattle.pv_tables.proofs.laws.one_tables_law.Goals as goal

pub returns : goal.returns
returns g c = one_tables c.one_live_word_law.ensures _
