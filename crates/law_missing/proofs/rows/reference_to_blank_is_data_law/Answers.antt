use Rattle.law_missing.proofs.SectionRows.{reference_to_blank_is_data_law}
use Rattle.law_missing.proofs.rows.reference_to_blank_is_data_law.Goals as goal

pub returns : goal.returns
returns c = reference_to_blank_is_data_law
