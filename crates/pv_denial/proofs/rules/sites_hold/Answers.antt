use Rattle.pv_denial.proofs.rules.sites_hold.Goals as goal

pub returns-then-all_names_hold : goal.returns-then-all_names_hold
returns-then-all_names_hold c = ((λ t. (c.all_names_hold.ensures.0 c.if-all_names_hold.true, c.all_parts_hold.ensures.0 t)), (λ h. c.all_parts_hold.ensures.1 h.1))
