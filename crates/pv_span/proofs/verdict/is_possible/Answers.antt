use Rattle.pv_span.proofs.verdict.is_possible.Goals as goal

pub derives-requires-clause-productive : goal.derives-requires-clause-productive
derives-requires-clause-productive c = rw c.in_ok-layout.ensures c.requires.productive

pub returns : goal.returns
returns c = rw c.in_ok-layout.ensures at c.derives.ensures
