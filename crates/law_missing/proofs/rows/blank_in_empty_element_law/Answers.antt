use Rattle.law_missing.proofs.DeepRows.{blank_in_empty_element_law}
use Rattle.law_missing.proofs.rows.blank_in_empty_element_law.Goals as goal

pub returns : goal.returns
returns c = blank_in_empty_element_law
