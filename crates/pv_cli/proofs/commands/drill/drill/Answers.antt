use Rattle.std.proofs.Common.{◌*◌, Err, length}
use Rattle.std.proofs.lemmas.Result.{err_from_is_err_and}
use Rattle.pv_cli.specs.Drill.{TellsCounts, drill_stage}
use Rattle.pv_opening.specs.Stage.{Responds}
use Rattle.pv_cli.specs.RunCounts.{CountsAtMost, judging_drill_stage}
use Rattle.pv_drill.specs.Drill.{drill_lines}
use Rattle.pv_opening.specs.JudgedCounts.{lists_judged}
use Rattle.pv_opening.specs.Returns.{ending_of}
use Rattle.pv_cli.proofs.CommandCounts.{drill_stopped}
use Rattle.pv_opening.proofs.JudgedLists.{opened_goes}
use Rattle.pv_cli.proofs.DrillStages.{asks_none}
use Rattle.pv_opening.proofs.Stages.{found_behind, stop_found, tells_found}
use Rattle.pv_cli.proofs.commands.drill.drill.Goals as goal

pub returns-in_err-session-clause-finds : goal.returns-in_err-session-clause-finds
returns-in_err-session-clause-finds g c =
    let n = c.args.n in
    let p = err_from_is_err_and c.from_residual.result c.from_residual.ensures.1 in
    rw (p.1, p.2)
    (stop_found (drill_stage n) (λ session. Responds (TellsCounts n session))
    c.in_err-session.field-0.0 (asks_none n 0) c.in_err-session.ensures.returns)

pub returns-clause-finds : goal.returns-clause-finds
returns-clause-finds g c =
    let n = c.args.n in
    let session = c.in_ok-session.session in
    found_behind (drill_stage n) (λ s. Responds (TellsCounts n s)) session
    c.answer_drill-response.result c.in_ok-session.ensures.returns
    (tells_found (TellsCounts n session) c.answer_drill-response.result
    c.answer_drill-response.ensures.tells)

pub returns-in_err-session-clause-checks : goal.returns-in_err-session-clause-checks
returns-in_err-session-clause-checks g c =
    let n = c.args.n in
    let p = err_from_is_err_and c.from_residual.result c.from_residual.ensures.1 in
    rw (p.1, p.2)
    (drill_stopped (judging_drill_stage n) lists_judged (2 * length (drill_lines n))
    (ending_of (Err c.in_err-session.field-0.0)) _ _ c.in_err-session.ensures.checks)

pub returns-clause-checks : goal.returns-clause-checks
returns-clause-checks g c =
    let n = c.args.n in
    let told = c.answer_drill-response in
    opened_goes (judging_drill_stage n) lists_judged (CountsAtMost (2 * length (drill_lines n)))
    (ending_of told.result) _ _ _ c.in_ok-session.session c.in_ok-session.ensures.checks
    (told.ensures.later, told.ensures.steps)
