use Rattle.pv_denial.proofs.rules.number_holds.Goals as goal

pub returns-then-part_holds : goal.returns-then-part_holds
returns-then-part_holds c = ((λ t. (c.part_holds.ensures.0 c.if-part_holds.true, c.rest_holds.ensures.0 t)), (λ h. c.rest_holds.ensures.1 h.1))
