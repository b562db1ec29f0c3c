use Rattle.pv_cache.proofs.OneRows.{one_rows}
use Rattle.pv_cache.proofs.laws.one_rows_law.Goals as goal

pub returns : goal.returns
returns c = one_rows
