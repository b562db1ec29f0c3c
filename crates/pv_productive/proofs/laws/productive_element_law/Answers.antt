use Rattle.pv_productive.proofs.Elements.{productive_is_element}
use Rattle.pv_productive.proofs.laws.productive_element_law.Goals as goal

pub returns : goal.returns
returns c = productive_is_element
