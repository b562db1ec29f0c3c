use Rattle.std.proofs.Common.{refl}
use Rattle.pv_productive.specs.PlainForms.{dtd_of}
use Rattle.pv_tree.specs.PlainDocs.{plain_doc}
use Rattle.pv_commands.specs.Check.{IsCheckCourse}
use Rattle.pv_opening.specs.Documents.{OpensDocument, PlainOpened, RefusesDocument, document_stage}
use Rattle.pv_opening.specs.JudgedCounts.{CountsNoMore, lists_judged}
use Rattle.pv_opening.specs.Possibility.{width_stage}
use Rattle.pv_opening.specs.Stage.{beside}
use Rattle.pv_commands.proofs.CommandCounts.{judged_document}
use Rattle.pv_opening.proofs.JudgedLists.{stops_first}
use Rattle.pv_opening.proofs.Stages.{found_behind, refusal_stops, stop_found}
use Rattle.pv_commands.proofs.check.check_opened.Goals as goal

pub returns-in-Ok-clause-finds : goal.returns-in-Ok-clause-finds
returns-in-Ok-clause-finds g c =
    let root = c.args.root.now in
    let d = dtd_of c.args.judge.now in
    let opened : PlainOpened =
    record { dtd = d; bytes = c.args.bytes.now; doc = plain_doc c.in-Ok.doc } in
    found_behind (document_stage root d c.args.bytes.now) (IsCheckCourse root) opened
    c.tell-response.result
    (record { is_dtd = refl; are_bytes = refl; is_text = c.in-Ok.ensures.read }, refl)
    (c.tell-response.ensures.tells opened refl refl)

pub returns-in-Err-clause-finds : goal.returns-in-Err-clause-finds
returns-in-Err-clause-finds g c =
    let root = c.args.root.now in
    let d = dtd_of c.args.judge.now in
    let bytes = c.args.bytes.now in
    stop_found (document_stage root d bytes) (IsCheckCourse root) c.refuse_document.result
    (λ never. never)
    (refusal_stops (OpensDocument root d bytes) (RefusesDocument root bytes)
    c.refuse_document.result (c.refuse_document.ensures root bytes c.in-Err.ensures.refused))

pub returns-in-Ok-clause-checks : goal.returns-in-Ok-clause-checks
returns-in-Ok-clause-checks g c =
    let d = dtd_of c.args.judge.now in
    let opened : PlainOpened =
    record { dtd = d; bytes = c.args.bytes.now; doc = plain_doc c.in-Ok.doc } in
    judged_document c.args.root.now d d c.args.bytes.now opened _ _ _
    (record { is_dtd = refl; are_bytes = refl; is_text = c.in-Ok.ensures.read }, refl) refl
    c.tell-response.ensures.counts

pub returns-in-Err-clause-checks : goal.returns-in-Err-clause-checks
returns-in-Err-clause-checks g c =
    let root = c.args.root.now in
    let d = dtd_of c.args.judge.now in
    let bytes = c.args.bytes.now in
    stops_first (document_stage root d bytes) (λ o. beside o (width_stage o.dtd o.doc)) lists_judged
    CountsNoMore 0 c.refuse_document.result _ _
    (refusal_stops (OpensDocument root d bytes) (RefusesDocument root bytes)
    c.refuse_document.result (c.refuse_document.ensures root bytes c.in-Err.ensures.refused)) refl
