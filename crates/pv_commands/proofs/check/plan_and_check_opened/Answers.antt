use Rattle.std.proofs.Common.{refl}
use Rattle.std.proofs.lemmas.Result.{err_from_is_err_and}
use Rattle.pv_opening.specs.JudgedCounts.{judges_none, without_memory}
use Rattle.pv_opening.specs.Stage.{short_of_memory}
use Rattle.pv_commands.proofs.check.plan_and_check_opened.Goals as goal

pub returns-in_err-plan-clause-finds : goal.returns-in_err-plan-clause-finds
returns-in_err-plan-clause-finds g c =
    let p = err_from_is_err_and c.from_residual.result c.from_residual.ensures.1 in
    rw (p.1, p.2) (short_of_memory 0 refl refl)

pub returns-in_err-plan-clause-checks : goal.returns-in_err-plan-clause-checks
returns-in_err-plan-clause-checks g c =
    let p = err_from_is_err_and c.from_residual.result c.from_residual.ensures.1 in
    rw (p.1, p.2) (judges_none (without_memory refl) refl)

pub returns-clause-finds : goal.returns-clause-finds
returns-clause-finds g c =
    rw (c.new-planned.ensures, c.grammar-2.ensures)
    at c.check_opened.ensures.finds

pub returns-clause-checks : goal.returns-clause-checks
returns-clause-checks g c =
    rw (c.new-planned.ensures, c.grammar-2.ensures)
    at c.check_opened.ensures.checks
