use Rattle.std.proofs.Common.{false}
use Rattle.pv_productive.specs.PlainForms.{dtd_of}
use Rattle.pv_tree.specs.PlainDocs.{plain_doc}
use Rattle.pv_opening.proofs.Stages.{stops_as}
use Rattle.pvlong.specs.ToldNumbers.{TellsDocument, TellsNothing, has_no_document}
use Rattle.pvlong.proofs.answering.tell_document.Goals as goal

pub returns-in-Err : goal.returns-in-Err
returns-in-Err g c =
    let root = c.args.root.now in
    let d = dtd_of c.args.grammar.now in
    let doc = plain_doc c.args.doc.now in
    stops_as (TellsNothing root d doc) (TellsDocument root d doc c.args.bytes.now false)
    c.refuse_missing.result
    (λ r none. has_no_document none) (c.refuse_missing.ensures root d doc c.in-Err.ensures.refused)

pub returns-in-Ok : goal.returns-in-Ok
returns-in-Ok g c =
    c.document_of.ensures c.args.root.now c.args.bytes.now (dtd_of c.args.grammar.now)
    (plain_doc c.args.doc.now) c.in-Ok.ensures.told
