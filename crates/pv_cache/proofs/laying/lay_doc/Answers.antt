use Rattle.std.proofs.Common.{◌∙◌, ap}
use Rattle.pv_tree.specs.Plain.{without_marks}
use Rattle.pv_tree.specs.PlainForms.{plain}
use Rattle.pv_tree.specs.PlainDocs.{plain_doc}
use Rattle.pv_edit.specs.Inverses.{IsKept}
use Rattle.pv_edit.proofs.PreparedChanges.{doc-kept}
use Rattle.pv_cache.proofs.LaidDocuments.{laid_root}
use Rattle.pv_cache.proofs.LaidLevels.{root_counted}
use Rattle.pv_cache.proofs.MarksAlone.{still-kept}
use Rattle.pv_cache.proofs.laying.lay_doc.Goals as goal

pub invariant_of-doc : goal.invariant_of-doc
invariant_of-doc c =
    let doc = c.args.doc.now in
    let k : IsKept (plain c.lay_node.new.node) =
    still-kept (plain doc.root) (plain c.lay_node.new.node)
    (ap without_marks c.lay_node.ensures.laid
    ∙ laid_root c.args.verdicts.now.verdicts (plain_doc doc)) (doc-kept doc) in
    record {
      rooted = k.rooted;
      formed = k.formed;
      shallow = k.shallow;
      small = k.small;
      named = k.named;
      units = k.units;
      legal = k.legal;
      no_close_mark = k.no_close_mark;
      prolog = doc.prolog;
      epilog = doc.epilog;
    }

pub update_top-requires : goal.update_top-requires
update_top-requires c =
    let doc = plain_doc c.args.doc.now in
    root_counted c.args.verdicts.now.verdicts doc.root c.nth_verdict.result
    (record doc { root = plain c.lay_node.new.node }) c.args.doc.now.small
    c.lay_node.ensures.laid
