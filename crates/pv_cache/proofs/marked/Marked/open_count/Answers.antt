use Rattle.std.proofs.Common.{subst}
use Rattle.pv_tree.specs.PlainDocs.{plain_doc}
use Rattle.pv_cache.specs.Moves.{HasOpen}
use Rattle.pv_cache.specs.Stamps.{StampedDoc}
use Rattle.pv_cache.proofs.StampMoves.{open_stamps}
use Rattle.pv_cache.proofs.marked.Marked.open_count.Goals as goal

pub returns : goal.returns
returns c =
    let m = c.self.inside in
    subst (λ (s : StampedDoc). HasOpen s m.document.doc.mark.left) c.self.view_is
    (open_stamps m.document.grammar m.document.root (plain_doc m.document.doc)
    c.self.inside.document.marked)
