use Rattle.pv_missing.proofs.ListsMissingNothing.{possible_are_missing}
use Rattle.pv_missing.proofs.laws.documents.possible_missing_law.Goals as goal

pub returns : goal.returns
returns g c = possible_are_missing _
