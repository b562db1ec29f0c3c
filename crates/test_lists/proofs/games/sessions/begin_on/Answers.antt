use Rattle.test_lists.proofs.games.sessions.begin_on.Goals as goal

pub begin-requires-clause-verdicts : goal.begin-requires-clause-verdicts
begin-requires-clause-verdicts g c = rw c.in_ok-root.ensures c.in_ok-verdicts.ensures.verdicts
