use Rattle.std.proofs.Common.{refl}
use Rattle.pv_productive.specs.PlainForms.{dtd_of}
use Rattle.pv_commands.specs.Check.{IsCheckCourse}
use Rattle.pv_opening.specs.Documents.{OpensDocument, RefusesDocument, document_stage}
use Rattle.pv_opening.specs.JudgedCounts.{CountsNoMore, lists_judged}
use Rattle.pv_opening.specs.Possibility.{width_stage}
use Rattle.pv_opening.specs.Stage.{beside}
use Rattle.pv_opening.proofs.JudgedLists.{stops_first}
use Rattle.pv_opening.proofs.Stages.{refusal_stops, stop_found}
use Rattle.pv_commands.proofs.check.check_again.Goals as goal

pub returns-in-Document-clause-finds : goal.returns-in-Document-clause-finds
returns-in-Document-clause-finds g c =
    let root = c.args.root.now in
    let d = dtd_of c.args.judge.now in
    let bytes = c.args.bytes.now in
    stop_found (document_stage root d bytes) (IsCheckCourse root) c.refuse_document.result
    (λ never. never)
    (refusal_stops (OpensDocument root d bytes) (RefusesDocument root bytes)
    c.refuse_document.result
    (c.refuse_document.ensures root bytes (rw c.in-Document.is at c.requires)))

pub returns-in-Document-clause-checks : goal.returns-in-Document-clause-checks
returns-in-Document-clause-checks g c =
    let root = c.args.root.now in
    let d = dtd_of c.args.judge.now in
    let bytes = c.args.bytes.now in
    stops_first (document_stage root d bytes) (λ o. beside o (width_stage o.dtd o.doc)) lists_judged
    CountsNoMore 0 c.refuse_document.result _ _
    (refusal_stops (OpensDocument root d bytes) (RefusesDocument root bytes)
    c.refuse_document.result
    (c.refuse_document.ensures root bytes (rw c.in-Document.is at c.requires))) refl
