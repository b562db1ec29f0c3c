use Rattle.law_missing.proofs.AnyRows.{unknown_name_law}
use Rattle.law_missing.proofs.rows.unknown_name_law.Goals as goal

pub returns : goal.returns
returns c = unknown_name_law
