use Rattle.std.proofs.Common.{subst, arith}
use Rattle.pv_edit.specs.Inverses.{IsKept}
use Rattle.pv_edit.specs.Reasons.{reason_of}
use Rattle.pv_edit.proofs.DocumentFacts.{edit-kept}
use Rattle.pv_edit.proofs.InverseLeads.{given-reason, given-doc}
use Rattle.pv_edit.proofs.laws.edits_keep_law.Goals as goal

pub returns : goal.returns
returns g c blank doc made edit k n h =
    subst (λ d. IsKept d.root) (given-doc (reason_of blank doc.root edit) _ made h)
    (edit-kept blank blank doc.root edit k (omega arith) (given-reason (reason_of blank doc.root edit) _ made h))
