use Rattle.pv_dtd.proofs.ProductiveNames.{productive_names}
use Rattle.pv_dtd.proofs.laws.productive_names_law.Goals as goal

pub returns : goal.returns
returns c = productive_names
