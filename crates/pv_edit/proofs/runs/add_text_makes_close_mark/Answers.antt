use Rattle.std.proofs.Common.{◌∙◌, ap, sym, List, ℕ}
use Rattle.pv_tree.specs.Plain.{Tree, forest_of}
use Rattle.pv_tree.specs.declared.nodes.Mark.{Mark}
use Rattle.pv_edit.specs.Effects.{one_text, fill}
use Rattle.pv_edit.specs.Reasons.{makes_close_mark, spells_close_mark}
use Rattle.pv_edit.specs.Changes.{others}
use Rattle.pv_tree.specs.PlainForms.{plain}
use Rattle.pv_edit.proofs.ThreeParts.{inserted-list}
use Rattle.pv_edit.proofs.RunSearches.{kids-unbroken, cut-front, cut-back}
use Rattle.pv_edit.proofs.runs.add_text_makes_close_mark.Goals as goal

pub returns : goal.returns
returns c text e =
    c.spell_close_mark_with.ensures
    ∙ ap (λ (l : List (Tree Mark)). spells_close_mark (forest_of l))
    (sym (inserted-list c.kids_at.result.now c.split_at.result.0.now c.split_at.result.1.now
    c.args.at _ (one_text c.args.units.now) c.kids_at.ensures c.split_at.ensures.front
    c.split_at.ensures.back))
    ∙ ap (λ (u : List (List ℕ)). makes_close_mark (fill c.args.path.now c.args.at c.args.at (others (one_text u))) (plain c.args.doc.now.root)) e

pub spell_close_mark_with-requires-clause-front : goal.spell_close_mark_with-requires-clause-front
spell_close_mark_with-requires-clause-front c =
    cut-front c.args.at c.kids_at.result.now _ _ c.kids_at.ensures c.split_at.ensures.front
    (kids-unbroken c.args.path.now (plain c.args.doc.now.root) c.args.doc.now.rooted
    c.args.doc.now.no_close_mark)

pub spell_close_mark_with-requires-clause-back : goal.spell_close_mark_with-requires-clause-back
spell_close_mark_with-requires-clause-back c =
    cut-back c.args.at c.kids_at.result.now _ _ c.kids_at.ensures c.split_at.ensures.back (kids-unbroken c.args.path.now (plain c.args.doc.now.root) c.args.doc.now.rooted c.args.doc.now.no_close_mark)
