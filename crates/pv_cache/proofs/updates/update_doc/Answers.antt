use Rattle.std.proofs.Common.{◌∙◌, ap, sym, arith, List, ℕ}
use Rattle.pv_edit.proofs.Levels.{path-split}
use Rattle.pv_tree.specs.PlainDocs.{plain_doc}
use Rattle.pv_cache.specs.Updates.{update_doc}
use Rattle.pv_cache.proofs.updates.update_doc.Goals as goal

pub returns-in-len1-up : goal.returns-in-len1-up
returns-in-len1-up c =
    let m = c.args.update.now in
    c.update_inside.ensures
    ∙ ap (λ (q : List ℕ). update_doc q m.verdict m.inner m.stamp (plain_doc c.args.doc.now))
    (sym (path-split c.args.list.now (omega arith)))
