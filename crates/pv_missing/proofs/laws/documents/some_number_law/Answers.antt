use Rattle.pv_missing.proofs.SameCompletions.{some_number}
use Rattle.pv_missing.proofs.laws.documents.some_number_law.Goals as goal

pub returns : goal.returns
returns c = some_number
