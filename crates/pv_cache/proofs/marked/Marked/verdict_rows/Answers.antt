use Rattle.std.proofs.Common.{subst, ◌∙◌}
use Rattle.pv_tree.specs.PlainDocs.{plain_doc}
use Rattle.pv_cache.specs.Rows.{AreRows}
use Rattle.pv_cache.specs.Stamps.{StampedDoc}
use Rattle.pv_cache.proofs.ToldRows.{told_rows}
use Rattle.pv_cache.proofs.marked.Marked.verdict_rows.Goals as goal

pub returns : goal.returns
returns c =
    let m = c.self.inside in
    subst (λ (s : StampedDoc). AreRows s c.of.result) c.self.view_is
    (told_rows m.document.grammar m.document.root (plain_doc m.document.doc)
    c.self.inside.document.marked c.of.result (c.of.ensures ∙ c.in_ok-rows_of.ensures))
