use Rattle.pv_rules.proofs.BarrierRows.{rows_make_barrier}
use Rattle.pv_rules.proofs.laws.barrier_rows_law.Goals as goal

pub returns : goal.returns
returns c = rows_make_barrier
