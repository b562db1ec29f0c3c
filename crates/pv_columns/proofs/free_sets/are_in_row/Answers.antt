use Rattle.pv_columns.proofs.SetsTaken.{run_all}
use Rattle.pv_columns.proofs.free_sets.are_in_row.Goals as goal

pub returns : goal.returns
returns c = run_all c.args.row.now c.args.word.now c.run.result c.run.ensures
