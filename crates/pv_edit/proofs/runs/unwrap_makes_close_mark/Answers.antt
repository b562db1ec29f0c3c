use Rattle.std.proofs.Common.{◌++◌, ◌∙◌, ap, sym, List}
use Rattle.pv_tree.specs.Plain.{Tree, forest_of}
use Rattle.pv_tree.specs.PlainForms.{plain_all}
use Rattle.pv_tree.specs.declared.nodes.Mark.{Mark}
use Rattle.pv_edit.specs.Reasons.{spells_close_mark}
use Rattle.pv_edit.proofs.ThreeParts.{unwrapped-list}
use Rattle.pv_tree.specs.PlainForms.{plain}
use Rattle.pv_edit.specs.Effects.{parent_of}
use Rattle.pv_edit.proofs.RunSearches.{kids-unbroken, parted-front, parted-back}
use Rattle.pv_edit.proofs.runs.unwrap_makes_close_mark.Goals as goal

pub returns : goal.returns
returns c =
    c.spell_close_mark.ensures
    ∙ ap (λ (l : List (Tree Mark)). spells_close_mark (forest_of (plain_all c.part_at.result.0.now ++ (l ++ plain_all c.part_at.result.2.now)))) c.kids_of.ensures
    ∙ ap (λ (l : List (Tree Mark)). spells_close_mark (forest_of l)) (sym (unwrapped-list c.part_at.ensures))

pub spell_close_mark-requires-clause-front : goal.spell_close_mark-requires-clause-front
spell_close_mark-requires-clause-front c = parted-front c.part_at.ensures (kids-unbroken (parent_of c.args.path.now) (plain c.args.doc.now.root) c.args.doc.now.rooted c.args.doc.now.no_close_mark)

pub spell_close_mark-requires-clause-back : goal.spell_close_mark-requires-clause-back
spell_close_mark-requires-clause-back c = parted-back c.part_at.ensures (kids-unbroken (parent_of c.args.path.now) (plain c.args.doc.now.root) c.args.doc.now.rooted c.args.doc.now.no_close_mark)
