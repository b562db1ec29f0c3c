use Rattle.std.proofs.Common.{subst}
use Rattle.pv_dtd.specs.Plain.{PlainDtd}
use Rattle.pv_dtd.specs.PlainForms.{plain_dtd}
use Rattle.pv_tree.specs.PlainDocs.{plain_doc}
use Rattle.pv_opening.specs.Returns.{TellsBy}
use Rattle.pvlong.specs.ToldNumbers.{TellsDocument, TellsNumber, not_least_in, response_in}
use Rattle.pvlong.proofs.ToldLines.{number_for}
use Rattle.pvlong.proofs.answering.tell.Goals as goal

pub returns-in-Need : goal.returns-in-Need
returns-in-Need g c =
    let root = c.args.root.now in
    let doc = plain_doc c.args.doc.now in
    rw (c.in-Need.is, c.told_of.ensures.least, c.told_of.ensures.response)
    (number_for root c.args.bytes.now (plain_dtd c.args.dtd) doc c.tell_number.result
    (subst (λ (g : PlainDtd). TellsBy (TellsNumber root g doc) c.tell_number.result)
    c.in_ok-grammar.ensures c.tell_number.ensures))

pub returns : goal.returns
returns g c =
    let root = c.args.root.now in
    let doc = plain_doc c.args.doc.now in
    let told = c.tell_document.result in
    rw c.in-Complete.is
    (subst (λ (g : PlainDtd). TellsBy (TellsDocument root g doc c.args.bytes.now
    (not_least_in told)) (response_in told)) c.in_ok-grammar.ensures c.tell_document.ensures)
