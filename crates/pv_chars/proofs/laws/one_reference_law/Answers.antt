use Rattle.pv_chars.proofs.UnitReading.{same_char_ref}
use Rattle.pv_chars.proofs.ReferenceLemmas.{same_entity_ref}
use Rattle.pv_chars.proofs.laws.one_reference_law.Goals as goal

pub returns-clause-by_code : goal.returns-clause-by_code
returns-clause-by_code c = λ bytes rest more a b. same_char_ref bytes a.item b.item rest more a.is_item b.is_item a.whole b.whole

pub returns-clause-by_name : goal.returns-clause-by_name
returns-clause-by_name c = same_entity_ref
