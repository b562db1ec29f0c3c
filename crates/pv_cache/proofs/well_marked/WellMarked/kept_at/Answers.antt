use Rattle.pv_tree.specs.PlainDocs.{plain_doc}
use Rattle.pv_cache.proofs.well_marked.WellMarked.kept_at.Goals as goal

pub returns : goal.returns
returns c =
    let m = c.args.self.now in
    c.at.ensures m.grammar (plain_doc m.doc) m.held
