use Rattle.std.proofs.Common.{◌∙◌, ap, sym, List, ℕ}
use Rattle.pv_tree.specs.Plain.{Tree, forest_of}
use Rattle.pv_tree.specs.declared.nodes.Mark.{Mark}
use Rattle.pv_edit.specs.Effects.{one_text, fill_node}
use Rattle.pv_edit.specs.Reasons.{makes_close_mark, spells_close_mark}
use Rattle.pv_edit.specs.Changes.{others}
use Rattle.pv_edit.proofs.ThreeParts.{parted-splice}
use Rattle.pv_tree.specs.PlainForms.{plain}
use Rattle.pv_edit.specs.Effects.{parent_of}
use Rattle.pv_edit.proofs.RunSearches.{kids-unbroken, parted-front, parted-back}
use Rattle.pv_edit.proofs.runs.set_text_makes_close_mark.Goals as goal

pub returns : goal.returns
returns c text e =
    c.spell_close_mark_with.ensures ∙ ap (λ (l : List (Tree Mark)). spells_close_mark (forest_of l)) (sym (parted-splice c.part_at.ensures (one_text c.args.units.now)))
    ∙ ap (λ (u : List (List ℕ)). makes_close_mark (fill_node c.args.path.now (others (one_text u))) (plain c.args.doc.now.root)) e

pub spell_close_mark_with-requires-clause-front : goal.spell_close_mark_with-requires-clause-front
spell_close_mark_with-requires-clause-front c = parted-front c.part_at.ensures
    (kids-unbroken (parent_of c.args.path.now) (plain c.args.doc.now.root) c.args.doc.now.rooted
    c.args.doc.now.no_close_mark)

pub spell_close_mark_with-requires-clause-back : goal.spell_close_mark_with-requires-clause-back
spell_close_mark_with-requires-clause-back c = parted-back c.part_at.ensures (kids-unbroken (parent_of c.args.path.now) (plain c.args.doc.now.root) c.args.doc.now.rooted c.args.doc.now.no_close_mark)
