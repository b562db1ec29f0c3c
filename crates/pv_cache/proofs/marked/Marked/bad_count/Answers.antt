use Rattle.std.proofs.Common.{subst}
use Rattle.pv_tree.specs.PlainDocs.{plain_doc}
use Rattle.pv_cache.specs.Moves.{HasBad}
use Rattle.pv_cache.specs.Stamps.{StampedDoc}
use Rattle.pv_cache.proofs.StampMoves.{bad_stamps}
use Rattle.pv_cache.proofs.marked.Marked.bad_count.Goals as goal

pub returns : goal.returns
returns c =
    let m = c.self.inside in
    let told =
    bad_stamps m.document.grammar m.document.root (plain_doc m.document.doc)
    c.self.inside.document.marked in
    subst (λ (s : StampedDoc). HasBad s m.document.bad) c.self.view_is
    (rw c.self.inside.document.counted told)
