use Rattle.std.proofs.Common.{◌≡◌, ◌∙◌, ap, [], ◌∷◌, refl}
use Rattle.std.proofs.lemmas.Result.{on_ok_weaker}
use Rattle.pv_tree.specs.PlainForms.{plain, plain_all}
use Rattle.pv_edit.specs.FittingChanges.{plain_change}
use Rattle.pv_edit.specs.Changes.{list_after}
use Rattle.pv_edit.proofs.Levels.{top_first}
use Rattle.pv_edit.proofs.descent.change_top.Goals as goal

pub returns-clause-changed : goal.returns-clause-changed
returns-clause-changed c =
    let root = plain c.args.root.now in
    let after = list_after (plain_change [] c.args.change) in
    let one : plain_all c.push_reserved.new.self.items ≡ root ∷ [] =
    rw (c.push_reserved.ensures.items, c.in_ok-kids.ensures.items, c.replace.ensures.value) refl in
    on_ok_weaker c.fill-filled.result
    (λ h. ap plain c.replace-2.ensures.after
    ∙ top_first root c.fill-filled.new.kids.items c.pop.new.self.items c.in-Some.first
    (after (root ∷ [])) c.in-Some.ensures.items (h ∙ ap after one) c.requires.one)
    c.fill-filled.ensures.filled
