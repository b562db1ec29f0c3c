use Rattle.std.proofs.Common.{[], ◌∷◌, refl, sym, ap, ◌∙◌, arith}
use Rattle.pv_productive.specs.PlainForms.{dtd_of}
use Rattle.pv_tree.specs.Lists.{lists_at, the_document}
use Rattle.pv_tree.specs.Plain.{no_trees, tree}
use Rattle.pv_missing.proofs.ListPaths.{root_site}
use Rattle.pv_check.proofs.ListsByWords.{judged_as, placed_there}
use Rattle.pv_check.proofs.checking.judge_root.Goals as goal

pub add-requires-clause-few_lists : goal.add-requires-clause-few_lists
add-requires-clause-few_lists c =
    let r = c.requires.1 in
    let count = r.has_root.finds.count in
    omega (arith, count, r.few_lists)

pub add-requires-clause-few_possible : goal.add-requires-clause-few_possible
add-requires-clause-few_possible c =
    let r = c.requires.1 in
    let count = r.has_root.finds.count in
    let few = r.has_root.finds.few_possible in
    omega (arith, count, few, r.few_lists)

pub returns : goal.returns
returns c = λ t r.
    let s = c.args.widths in
    let d = dtd_of c.args.judge.now in
    let root = c.args.root.now in
    let site = root_site _ d root _ (c.dtd.ensures ∙ ap dtd_of c.grammar.ensures) c.root_owner-owner.ensures.owner in
    let judges = judged_as s d root (record {
      path = [];
      owner = the_document;
      kids = tree t no_trees;
    }) c.in_ok-judged.judged _ _ _ (t, refl) (sym site) (sym r.has_root.is_word) refl
    c.in_ok-judged.ensures in
    c.in_ok-add.ensures s d root [] (lists_at (0 ∷ []) t)
    (record { path = []; owner = the_document; kids = tree t no_trees }) r.has_root.finds tt
    judges (placed_there c.in_ok-judged.judged [])
