use Rattle.std.proofs.Common.{length}
use Rattle.std.proofs.lemmas.Result.{err_from_is_err_and}
use Rattle.pv_edit.specs.ChangedLists.{changed_lists, makes}
use Rattle.pv_cache.proofs.well_marked.WellMarked.judge.Goals as goal

pub returns-in_err-ready-clause-each : goal.returns-in_err-ready-clause-each
returns-in_err-ready-clause-each g c =
    let p = err_from_is_err_and c.from_residual.result c.from_residual.ensures.1 in
    rw (p.1, p.2)
    (c.in_err-ready.ensures.none (length (changed_lists (makes c.args.edit.now))) c.args.steps.now)
