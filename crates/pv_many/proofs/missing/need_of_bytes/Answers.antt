use Rattle.std.proofs.Common.{refl}
use Rattle.pv_productive.specs.PlainForms.{dtd_of}
use Rattle.pv_tree.specs.PlainDocs.{plain_doc}
use Rattle.pv_opening.specs.Documents.{OpensDocument, PlainOpened, RefusesDocument, document_stage}
use Rattle.pv_opening.proofs.Stages.{found_behind, refusal_stops, stop_found}
use Rattle.pv_many.specs.MissingAnswers.{IsNeedCourse}
use Rattle.pv_many.proofs.missing.need_of_bytes.Goals as goal

pub returns-in-Ok-clause-takes : goal.returns-in-Ok-clause-takes
returns-in-Ok-clause-takes g c =
    let root = c.args.root.now in
    let d = dtd_of c.args.judge.now in
    let opened : PlainOpened =
    record { dtd = d; bytes = c.args.bytes.now; doc = plain_doc c.in-Ok.doc } in
    found_behind (document_stage root d c.args.bytes.now) (IsNeedCourse root) opened
    c.need_of_document.result
    (record { is_dtd = refl; are_bytes = refl; is_text = c.in-Ok.ensures.read }, refl)
    (c.need_of_document.ensures.takes opened refl refl)

pub returns-in-Err-clause-takes : goal.returns-in-Err-clause-takes
returns-in-Err-clause-takes g c =
    let root = c.args.root.now in
    let d = dtd_of c.args.judge.now in
    let bytes = c.args.bytes.now in
    stop_found (document_stage root d bytes) (IsNeedCourse root) c.refuse_document.result
    (λ never. never)
    (refusal_stops (OpensDocument root d bytes) (RefusesDocument root bytes)
    c.refuse_document.result (c.refuse_document.ensures root bytes c.in-Err.ensures.refused))
