use Rattle.test_rows.proofs.offers.tries.begin_on.Goals as goal

pub begin_by-requires-clause-verdicts : goal.begin_by-requires-clause-verdicts
begin_by-requires-clause-verdicts g c = rw (c.in_ok-grammar.ensures, c.in_ok-root.ensures) c.in_ok-verdicts.ensures.verdicts
