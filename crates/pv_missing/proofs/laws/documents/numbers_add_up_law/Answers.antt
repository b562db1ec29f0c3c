use Rattle.pv_missing.proofs.DocLists.{numbers_add_up}
use Rattle.pv_missing.proofs.laws.documents.numbers_add_up_law.Goals as goal

pub returns : goal.returns
returns g c = numbers_add_up _
