use Rattle.pv_tree.specs.PlainForms.{plain}
use Rattle.pv_edit.proofs.PreparedChanges.{doc-kept, prepared-bare, prepared-can, prepared-kept, prepared-leads, prepared-unshort}
use Rattle.pv_edit.proofs.changes.prepare.Goals as goal

pub returns-clause-can : goal.returns-clause-can
returns-clause-can c = prepared-can (plain c.args.doc.now.root) c.args.edit.now c.in_ok-preparation_of.field-0 c.in_ok-preparation_of.ensures c.args.doc.now.rooted c.in_ok-first_reason.ensures

pub returns-clause-kept : goal.returns-clause-kept
returns-clause-kept c n = prepared-kept (plain c.args.doc.now.root) c.args.edit.now
    c.in_ok-preparation_of.field-0 c.in_ok-preparation_of.ensures (doc-kept c.args.doc.now) n
    c.in_ok-first_reason.ensures

pub returns-clause-unshort : goal.returns-clause-unshort
returns-clause-unshort c = prepared-unshort (plain c.args.doc.now.root) c.args.edit.now c.in_ok-preparation_of.field-0 c.in_ok-preparation_of.ensures

pub returns-clause-bare : goal.returns-clause-bare
returns-clause-bare c = prepared-bare (plain c.args.doc.now.root) c.args.edit.now c.in_ok-preparation_of.field-0 c.in_ok-preparation_of.ensures

pub returns-clause-leads_back : goal.returns-clause-leads_back
returns-clause-leads_back c = prepared-leads c.args.doc.now c.args.edit.now c.in_ok-preparation_of.field-0 c.in_ok-preparation_of.ensures c.in_ok-first_reason.ensures
