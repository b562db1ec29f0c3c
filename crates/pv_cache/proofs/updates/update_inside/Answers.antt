use Rattle.std.proofs.Common.{◌∙◌, ap}
use Rattle.pv_tree.specs.Plain.{without_marks}
use Rattle.pv_tree.specs.PlainForms.{plain}
use Rattle.pv_edit.specs.Inverses.{IsKept}
use Rattle.pv_cache.specs.Updates.{update_owner}
use Rattle.pv_edit.proofs.PreparedChanges.{doc-kept}
use Rattle.pv_cache.proofs.MarksAlone.{below-as, owner-as, still-kept}
use Rattle.pv_cache.proofs.updates.update_inside.Goals as goal

pub invariant_of-doc : goal.invariant_of-doc
invariant_of-doc c =
    let m = c.args.update.now in
    let doc = c.args.doc.now in
    let k : IsKept (plain c.update_below.new.node) =
    still-kept (plain doc.root) (plain c.update_below.new.node)
    (ap without_marks c.update_below.ensures
    ∙ below-as c.args.below.now (update_owner m.verdict m.inner m.stamp)
    (owner-as m.verdict m.inner m.stamp) (plain doc.root)) (doc-kept doc) in
    record {
      rooted = k.rooted;
      formed = k.formed;
      shallow = k.shallow;
      small = k.small;
      named = k.named;
      units = k.units;
      legal = k.legal;
      no_close_mark = k.no_close_mark;
      prolog = doc.prolog;
      epilog = doc.epilog;
    }
