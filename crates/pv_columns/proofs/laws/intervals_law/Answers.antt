use Rattle.pv_columns.proofs.Spans.{ends_are_intervals}
use Rattle.pv_columns.proofs.laws.intervals_law.Goals as goal

pub returns : goal.returns
returns c = ends_are_intervals
