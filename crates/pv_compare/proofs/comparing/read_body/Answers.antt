use Rattle.pv_tree.specs.PlainDocs.{plain_doc}
use Rattle.pv_compare.proofs.KeptDocuments.{kept-of}
use Rattle.pv_compare.proofs.comparing.read_body.Goals as goal

pub returns-clause-kept : goal.returns-clause-kept
returns-clause-kept c = λ bytes text b is-body.
    let q = rw c.deref.ensures.value at c.in_ok-found.ensures.compared in
    let k = kept-of c.agreement_law.ensures c.one_meaning_law.ensures c.events_leave_out_law.ensures
    c.args.root.now bytes c.args.body.now c.args.marks.now (plain_doc c.args.doc.now) text
    c.in_ok-parts.parts c.in_ok-found.found c.in_ok-parts.ensures q b is-body in
    (λ t. k.0 (c.agrees-kept.ensures.0 t), λ m. c.agrees-kept.ensures.1 (k.1 m))
