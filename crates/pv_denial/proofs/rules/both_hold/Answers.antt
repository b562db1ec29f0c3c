use Rattle.pv_denial.proofs.rules.both_hold.Goals as goal

pub returns-then-name_holds : goal.returns-then-name_holds
returns-then-name_holds c = ((λ t. (c.name_holds.ensures.0 c.if-name_holds.true, c.content_holds.ensures.0 t)), (λ h. c.content_holds.ensures.1 h.1))
