use Rattle.pv_check.proofs.words.is_valid_of.Goals as goal

pub returns-in-Elem : goal.returns-in-Elem
returns-in-Elem c = rw c.in-Elem.is c.is_valid_content.ensures
