use Rattle.pv_model.proofs.laid.matches_by_walk.Goals as goal

pub returns-in-Children : goal.returns-in-Children
returns-in-Children c = rw c.in-Children.is (rw c.deref.ensures at c.has_children_by_walk.ensures)
