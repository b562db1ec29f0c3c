use Rattle.pv_missing.proofs.ListsMissingNothing.{none_missing_valid}
use Rattle.pv_missing.proofs.laws.lists.none_missing_law.Goals as goal

pub returns : goal.returns
returns g c = none_missing_valid _
