use Rattle.pv_commands.proofs.check.check_under.Goals as goal

pub returns-clause-finds : goal.returns-clause-finds
returns-clause-finds g c = rw c.without_plan-judge.ensures at c.check_planned.ensures.finds

pub returns-clause-checks : goal.returns-clause-checks
returns-clause-checks g c = rw c.without_plan-judge.ensures at c.check_planned.ensures.checks
