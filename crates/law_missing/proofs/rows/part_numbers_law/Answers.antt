use Rattle.law_missing.proofs.WordRows.{part_numbers_law}
use Rattle.law_missing.proofs.rows.part_numbers_law.Goals as goal

pub returns : goal.returns
returns c = part_numbers_law
