use Rattle.test_lists.proofs.games.judging.marked_on.Goals as goal

pub build-requires-clause-verdicts : goal.build-requires-clause-verdicts
build-requires-clause-verdicts g c = rw c.in_ok-root.ensures c.in_ok-verdicts.ensures.verdicts

pub build_by-requires-clause-verdicts : goal.build_by-requires-clause-verdicts
build_by-requires-clause-verdicts g c = rw (c.in_ok-grammar.ensures, c.in_ok-root.ensures) c.in_ok-verdicts.ensures.verdicts
