use Rattle.std.proofs.Common.{◌∙◌, sym}
use Rattle.pv_tree.specs.PlainForms.{plain}
use Rattle.pv_edit.proofs.ThreeParts.{inner_text}
use Rattle.pv_edit.proofs.CloseMarkSearch.{none_is}
use Rattle.pv_edit.proofs.shapes.set_text_shape.Goals as goal

pub set_text_makes_close_mark-requires-clause-there : goal.set_text_makes_close_mark-requires-clause-there
set_text_makes_close_mark-requires-clause-there c =
    inner_text c.args.path.now (plain c.args.doc.now.root) (sym c.text_at.ensures.lacks ∙ sym (none_is c.text_at.result c.is_none.result c.is_none.ensures) ∙ c.in_ok-unless-2.ensures)
