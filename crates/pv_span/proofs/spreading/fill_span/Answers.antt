use Rattle.pv_span.proofs.spreading.fill_span.Goals as goal

pub returns-then-branch-clause-settled : goal.returns-then-branch-clause-settled
returns-then-branch-clause-settled c = let s = c.spread.ensures.same in rw (s.0, s.1) (c.in_ok-spread.ensures.settled c.if-branch.true)
