use Rattle.pv_tree.proofs.Levels.{kids_of-Elem}
use Rattle.pv_edit.proofs.places.kids_of.Goals as goal

pub returns-in-Elem : goal.returns-in-Elem
returns-in-Elem c =
    rw (c.as_slice.ensures.value, c.in-Elem.is) (kids_of-Elem c.in-Elem.name c.in-Elem.attrs c.in-Elem.end c.in-Elem.kids c.in-Elem.mark)
