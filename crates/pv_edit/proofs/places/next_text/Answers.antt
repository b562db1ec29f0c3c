use Rattle.pv_tree.specs.PlainForms.{plain, plain_all}
use Rattle.pv_edit.proofs.ThreeParts.{next_is}
use Rattle.pv_edit.proofs.places.next_text.Goals as goal

pub returns : goal.returns
returns c =
    rw (next_is c.args.path.now (plain c.args.doc.now.root) (plain_all c.part_at.result.0.now) (plain c.part_at.result.1.now) (plain_all c.part_at.result.2.now) c.part_at.ensures) c.first_text.ensures
