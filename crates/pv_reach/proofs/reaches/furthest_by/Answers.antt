use Rattle.pv_reach.proofs.reaches.furthest_by.Goals as goal

pub furthest_over-requires-clause-productive : goal.furthest_over-requires-clause-productive
furthest_over-requires-clause-productive c = rw c.grammar.ensures c.requires

pub furthest_over-requires-clause-plan : goal.furthest_over-requires-clause-plan
furthest_over-requires-clause-plan c = rw c.grammar.ensures c.plan.ensures

pub returns-clause-reaches : goal.returns-clause-reaches
returns-clause-reaches c = rw c.grammar.ensures at c.furthest_over.ensures.reaches

pub returns-clause-fits : goal.returns-clause-fits
returns-clause-fits c = rw c.grammar.ensures at c.furthest_over.ensures.fits

pub returns-clause-wide : goal.returns-clause-wide
returns-clause-wide c = rw c.grammar.ensures at c.furthest_over.ensures.wide
