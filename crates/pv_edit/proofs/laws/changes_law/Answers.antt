use Rattle.pv_edit.specs.Reasons.{reason_of}
use Rattle.pv_edit.proofs.DocumentFacts.{edit-can}
use Rattle.pv_edit.proofs.InverseLeads.{given-reason, given-doc}
use Rattle.pv_edit.proofs.PreparedChanges.{edit-bare, edit-unshort}
use Rattle.pv_edit.proofs.laws.changes_law.Goals as goal

pub returns : goal.returns
returns g c blank doc made edit k h = record {
  can = edit-can blank blank doc.root edit k (given-reason (reason_of blank doc.root edit) _ made h);
  unshort = edit-unshort blank doc.root edit;
  bare = edit-bare blank doc.root edit;
  is_made = given-doc (reason_of blank doc.root edit) _ made h;
}
