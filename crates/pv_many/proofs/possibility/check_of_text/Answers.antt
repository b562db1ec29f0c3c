use Rattle.std.proofs.Common.{Result, Ok, refl}
use Rattle.std.proofs.lemmas.Result.{err_from_is_err_and}
use Rattle.pv_commands.specs.Check.{IsCheckCourse}
use Rattle.pv_dtd.proofs.ProperDtds.{proper}
use Rattle.pv_opening.specs.Documents.{OpensDocument, RefusesDocument, document_stage}
use Rattle.pv_opening.specs.Stage.{short_of_memory}
use Rattle.pv_opening.specs.declared.response.Response.{Response}
use Rattle.pv_opening.specs.declared.stop.Stop.{Stop}
use Rattle.pv_opening.proofs.Stages.{refusal_stops, stop_found}
use Rattle.pv_productive.specs.PlainForms.{dtd_of}
use Rattle.pv_many.proofs.ValidTexts.{valid_checked}
use Rattle.pv_many.proofs.possibility.check_of_text.Goals as goal

pub returns-in_ok-with_line-in-Ok-true-clause-takes :
    goal.returns-in_ok-with_line-in-Ok-true-clause-takes
returns-in_ok-with_line-in-Ok-true-clause-takes g c =
    let result : Result Response Stop = Ok c.in_ok-with_line-in-Ok-true.field-0 in
    let text = c.in-Ok-true.ensures.valid c.in-Ok-true.field-0-test in
    valid_checked (dtd_of c.args.planner.now) (proper c.args.planner.now.layout.dtd) c.args.root.now
    c.args.bytes.now text result c.in_ok-with_line-in-Ok-true.ensures

pub returns-in_err-with_line-in-Ok-true-clause-takes :
    goal.returns-in_err-with_line-in-Ok-true-clause-takes
returns-in_err-with_line-in-Ok-true-clause-takes g c =
    let p = err_from_is_err_and c.from_residual.result c.from_residual.ensures.1 in
    rw (p.1, p.2) (short_of_memory 0 refl refl)

pub returns-in-Ok-false-clause-takes : goal.returns-in-Ok-false-clause-takes
returns-in-Ok-false-clause-takes g c =
    rw (c.judge-judge.ensures, c.in-Ok-false.ensures.same) at c.check_by.ensures.finds

pub returns-in-Err-clause-takes : goal.returns-in-Err-clause-takes
returns-in-Err-clause-takes g c =
    let root = c.args.root.now in
    let bytes = c.args.bytes.now in
    stop_found (document_stage root (dtd_of c.args.planner.now) bytes) (IsCheckCourse root)
    c.refuse_document.result
    (λ never. never)
    (refusal_stops (OpensDocument root (dtd_of c.args.planner.now) bytes)
    (RefusesDocument root bytes) c.refuse_document.result
    (c.refuse_document.ensures root bytes c.in-Err.ensures.refused))
