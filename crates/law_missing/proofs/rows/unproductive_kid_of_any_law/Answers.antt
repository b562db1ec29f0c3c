use Rattle.law_missing.proofs.AnyRows.{unproductive_kid_of_any_law}
use Rattle.law_missing.proofs.rows.unproductive_kid_of_any_law.Goals as goal

pub returns : goal.returns
returns c = unproductive_kid_of_any_law
