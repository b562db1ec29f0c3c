use Rattle.std.proofs.Common.{Option, subst}
use Rattle.pv_tree.specs.PlainForms.{plain}
use Rattle.pv_cache.specs.Updates.{IsCounted, update_owner}
use Rattle.pv_cache.specs.declared.updates.InnerVerdict.{InnerVerdict}
use Rattle.pv_cache.proofs.Levels.{inner-counted}
use Rattle.pv_cache.proofs.updates.update_owner.Goals as goal

pub update_kid-requires-clause-counted : goal.update_kid-requires-clause-counted
update_kid-requires-clause-counted c =
    let m = c.args.update.now in
    let t = plain c.args.node.now in
    inner-counted m.verdict c.in-Some.inner m.stamp t (rw c.in-Some.is at c.requires.within)
    (subst (λ (o : Option InnerVerdict). IsCounted (update_owner m.verdict o m.stamp t))
    c.in-Some.is c.requires.counted)
