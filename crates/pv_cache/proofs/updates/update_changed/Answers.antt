use Rattle.std.proofs.Common.{List, ap, subst, ◌∙◌}
use Rattle.pv_tree.specs.Plain.{Tree}
use Rattle.pv_tree.specs.PlainForms.{plain, plain_all}
use Rattle.pv_tree.proofs.Levels.{plain-Elem, trees-forest}
use Rattle.pv_tree.specs.declared.nodes.Mark.{Mark}
use Rattle.pv_cache.specs.Updates.{OwnerTellsBefore, TellsBefore}
use Rattle.pv_cache.proofs.ExchangedKids.{tells-there}
use Rattle.pv_cache.proofs.updates.update_changed.Goals as goal

pub mark_after-requires-clause-tells : goal.mark_after-requires-clause-tells
mark_after-requires-clause-tells c =
    let e = c.args.exchange.now in
    let is =
    ap plain c.in-Elem.is
    ∙ plain-Elem c.in-Elem.name c.in-Elem.attrs c.in-Elem.end c.in-Elem.kids c.in-Elem.mark in
    let owner = subst (OwnerTellsBefore e) is c.requires.tells in
    let tells =
    subst (λ (l : List (Tree Mark)). TellsBefore e l c.in-Elem.mark)
    (trees-forest (plain_all c.in-Elem.kids.items)) owner in
    tells-there e c.deref.result.now c.in-Elem.kids.items _ c.in-Elem.mark (c.deref.ensures.value
    ∙ ap (λ k. k.items) c.in-Elem.kids-is) c.in-Elem.mark-is tells
