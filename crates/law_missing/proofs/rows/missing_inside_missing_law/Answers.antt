use Rattle.law_missing.proofs.NestedRows.{missing_inside_missing_law}
use Rattle.law_missing.proofs.rows.missing_inside_missing_law.Goals as goal

pub returns : goal.returns
returns c = missing_inside_missing_law
