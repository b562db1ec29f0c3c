use Rattle.pv_span.proofs.verdict.is_valid.Goals as goal

pub returns-in-Elem : goal.returns-in-Elem
returns-in-Elem c = rw c.in-Elem.is c.fits_element.ensures
