use Rattle.pv_productive.proofs.Elements.{size_is_of_element}
use Rattle.pv_productive.proofs.laws.size_of_element_law.Goals as goal

pub returns : goal.returns
returns c = size_is_of_element
