use Rattle.pv_productive.specs.PlainForms.{dtd_of}
use Rattle.pv_tree.specs.PlainDocs.{plain_doc}
use Rattle.pv_opening.proofs.Stages.{stops_as}
use Rattle.pvlong.specs.ToldNumbers.{TellsNothing, TellsNumber, has_no_number}
use Rattle.pvlong.proofs.answering.tell_number.Goals as goal

pub returns-in-Err : goal.returns-in-Err
returns-in-Err g c =
    let root = c.args.root.now in
    let d = dtd_of c.args.grammar.now in
    let doc = plain_doc c.args.doc.now in
    stops_as (TellsNothing root d doc) (TellsNumber root d doc) c.refuse_missing.result
    (λ r none. has_no_number none) (c.refuse_missing.ensures root d doc c.in-Err.ensures.refused)
