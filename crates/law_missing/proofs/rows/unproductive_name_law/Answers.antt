use Rattle.law_missing.proofs.NestedRows.{unproductive_name_law}
use Rattle.law_missing.proofs.rows.unproductive_name_law.Goals as goal

pub returns : goal.returns
returns c = unproductive_name_law
