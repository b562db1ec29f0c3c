use Rattle.law_missing.proofs.TableRows.{closed_table_law}
use Rattle.law_missing.proofs.rows.closed_table_law.Goals as goal

pub returns : goal.returns
returns c = closed_table_law
