use Rattle.pv_tables.proofs.Values.{listed_cases}
use Rattle.pv_tables.proofs.laws.listed_or_not_law.Goals as goal

pub returns : goal.returns
returns c = listed_cases
