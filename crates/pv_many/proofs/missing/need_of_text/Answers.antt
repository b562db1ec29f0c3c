use Rattle.pv_dtd.proofs.ProperDtds.{proper}
use Rattle.pv_opening.specs.Documents.{OpensDocument, RefusesDocument, document_stage}
use Rattle.pv_opening.proofs.Stages.{refusal_stops, stop_found}
use Rattle.pv_productive.specs.PlainForms.{dtd_of}
use Rattle.pv_many.specs.MissingAnswers.{IsNeedCourse}
use Rattle.pv_many.proofs.ValidTexts.{valid_needs_none}
use Rattle.pv_many.proofs.missing.need_of_text.Goals as goal

pub returns-in-Ok-true-clause-takes : goal.returns-in-Ok-true-clause-takes
returns-in-Ok-true-clause-takes g c =
    let text = c.in-Ok-true.ensures.valid c.in-Ok-true.field-0-test in
    valid_needs_none (dtd_of c.args.planner.now) (proper c.args.planner.now.layout.dtd)
    c.args.root.now c.args.bytes.now text c.number_line.result c.number_line.ensures

pub returns-in-Ok-false-clause-takes : goal.returns-in-Ok-false-clause-takes
returns-in-Ok-false-clause-takes g c =
    rw (c.judge-judge.ensures, c.in-Ok-false.ensures.same) at c.need_of_bytes.ensures.takes

pub returns-in-Err-clause-takes : goal.returns-in-Err-clause-takes
returns-in-Err-clause-takes g c =
    let root = c.args.root.now in
    let bytes = c.args.bytes.now in
    stop_found (document_stage root (dtd_of c.args.planner.now) bytes) (IsNeedCourse root)
    c.refuse_document.result
    (λ never. never)
    (refusal_stops (OpensDocument root (dtd_of c.args.planner.now) bytes)
    (RefusesDocument root bytes) c.refuse_document.result
    (c.refuse_document.ensures root bytes c.in-Err.ensures.refused))
