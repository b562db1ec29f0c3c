use Rattle.pv_table_check.proofs.tables.entries_closed.Goals as goal

pub returns : goal.returns
returns c = (λ t. (c.are_over.ensures.0 c.if-not-are_over.false, c.is_closed.ensures.0 t), λ h. c.is_closed.ensures.1 h.1)
