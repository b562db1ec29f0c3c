use Rattle.pv_columns.proofs.Runs.{free_reaches_taken}
use Rattle.pv_columns.proofs.laws.free_law.Goals as goal

pub returns : goal.returns
returns c = free_reaches_taken
