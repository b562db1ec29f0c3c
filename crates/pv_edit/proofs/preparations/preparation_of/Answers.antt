use Rattle.std.proofs.Common.{ap, ◌∙◌}
use Rattle.pv_tree.specs.PlainForms.{plain}
use Rattle.pv_tree.specs.Marks.{blank_mark}
use Rattle.pv_edit.specs.GivenNames.{is_new_text}
use Rattle.pv_edit.proofs.PassedEdits.{set-given, add-given}
use Rattle.pv_edit.proofs.preparations.preparation_of.Goals as goal

pub prepare_set_text-requires-clause-given : goal.prepare_set_text-requires-clause-given
prepare_set_text-requires-clause-given c = ap is_new_text c.as_slice-in-SetText.ensures ∙ set-given blank_mark (plain c.args.doc.now.root) c.args.edit.now c.requires c.in-SetText.is

pub prepare_add_text-requires : goal.prepare_add_text-requires
prepare_add_text-requires c = ap is_new_text c.as_slice-in-AddText.ensures ∙ add-given blank_mark (plain c.args.doc.now.root) c.args.edit.now c.requires c.in-AddText.is
