use Rattle.pv_compare.proofs.KeptDocuments.{kept-is}
use Rattle.pv_compare.proofs.comparing.is_kept.Goals as goal

pub returns-clause-kept : goal.returns-clause-kept
returns-clause-kept c = λ d b is-doc is-body.
    let q = rw c.deref.ensures.value at c.in_ok-found.ensures.compared in
    let k = kept-is c.agreement_law.ensures c.one_meaning_law.ensures c.events_leave_out_law.ensures
    c.args.root.now c.args.doc.now c.args.body.now c.args.marks.now c.in_ok-parts.parts
    c.in_ok-found.found c.in_ok-parts.ensures.read q d b is-doc is-body in
    (λ t. k.0 (c.agrees.ensures.0 t), λ m. c.agrees.ensures.1 (k.1 m))
