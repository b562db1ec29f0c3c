use Rattle.std.proofs.Common.{List, subst, ℕ}
use Rattle.pv_columns.specs.FreeSets.{AreFreeSets}
use Rattle.pv_reach.proofs.ContentRules.{if_ok_as}
use Rattle.pv_reach.proofs.columns.free.free_sets.Goals as goal

pub returns : goal.returns
returns c =
    if_ok_as c.of.result _ _
    (λ free are. record {
      columns = c.in_ok-columns.columns.items;
      own = c.in_ok-columns.ensures.own;
      sets = (let P : List ℕ → Type 0 = λ v. AreFreeSets c.args.merged.now v free in subst P c.deref-2.ensures.value are);
    }) c.of.ensures
