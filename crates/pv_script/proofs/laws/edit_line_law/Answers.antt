use Rattle.pv_script.proofs.EditLines.{again}
use Rattle.pv_script.proofs.laws.edit_line_law.Goals as goal

pub returns : goal.returns
returns g c = again
