use Rattle.pv_write.proofs.Views.{view_written}
use Rattle.pv_write.proofs.laws.every_view_is_written_law.Goals as goal

pub returns : goal.returns
returns c = view_written
