use Rattle.std.proofs.Common.{subst}
use Rattle.pv_edit.specs.Inverses.{IsKept}
use Rattle.pv_edit.proofs.PreparedChanges.{doc-kept}
use Rattle.pv_edit.proofs.RemarkedFacts.{kept-to}
use Rattle.pv_tree.specs.PlainDocs.{plain_doc}
use Rattle.pv_cache.specs.AcceptedEdits.{IsHoldable}
use Rattle.pv_cache.specs.Stamps.{StampedDoc, stamp_of}
use Rattle.pv_cache.proofs.RemarkedDocuments.{holdable_to}
use Rattle.pv_cache.proofs.StampMoves.{holdable_of}
use Rattle.pv_cache.proofs.marked.Marked.holdable_law.Goals as goal

pub returns-clause-holdable : goal.returns-clause-holdable
returns-clause-holdable c =
    let m = c.self.inside in
    let d = m.document.grammar in
    subst (λ (s : StampedDoc). IsHoldable s.dtd s.doc) c.self.view_is
    (holdable_to stamp_of (plain_doc m.document.doc) d m.document.root
    (holdable_of d m.document.root (plain_doc m.document.doc) c.self.inside.document.few
    c.self.inside.document.marked))

pub returns-clause-kept : goal.returns-clause-kept
returns-clause-kept c =
    let m = c.self.inside in
    subst (λ (s : StampedDoc). IsKept s.doc.root) c.self.view_is
    (kept-to stamp_of (plain_doc m.document.doc).root (doc-kept m.document.doc))
