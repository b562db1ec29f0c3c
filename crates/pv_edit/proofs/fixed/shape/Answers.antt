use Rattle.pv_tree.specs.PlainForms.{plain}
use Rattle.pv_tree.specs.PlainDocs.{plain_doc}
use Rattle.pv_tree.specs.Marks.{blank_mark}
use Rattle.pv_edit.specs.Changes.{doc_after}
use Rattle.pv_edit.specs.Effects.{change_of}
use Rattle.pv_edit.specs.Reasons.{reason_of}
use Rattle.pv_edit.proofs.FirstReasons.{answered}
use Rattle.pv_edit.proofs.fixed.shape.Goals as goal

pub returns : goal.returns
returns c =
    let root = plain c.args.doc.now.root in
    answered c.first_reason.result (reason_of blank_mark root c.args.edit.now) (doc_after (change_of blank_mark root c.args.edit.now) (plain_doc c.args.doc.now)) c.first_reason.ensures
