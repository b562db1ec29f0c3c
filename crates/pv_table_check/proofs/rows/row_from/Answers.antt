use Rattle.std.proofs.Common.{arith, refl, ◌∙◌, false}
use Rattle.std.proofs.lemmas.List.{length_push}
use Rattle.pv_rules.specs.PlainForms.{plain_site}
use Rattle.pv_table_check.specs.Lookup.{least_entry}
use Rattle.pv_table_check.proofs.ClosedSites.{same_value_by}
use Rattle.pv_table_check.proofs.RowValues.{one_more}
use Rattle.pv_table_check.proofs.rows.row_from.Goals as goal

pub loop-to-preserved : goal.loop-to-preserved
loop-to-preserved c =
    let v = c.value_near.ensures in
    let same = same_value_by c.listed_or_not_law.ensures c.args.entries.now c.requires.ascend false
    (least_entry c.args.site c.args.from) c.row_of-found.result.now c.row_of-found.ensures.like
    c.row_of-found.ensures.ascend c.args.from c.loop-to.to (λ f. refl) in
    record {
      long = rw c.in_ok-push.ensures.items (let l = length_push c.loop-to.values.items c.value_near.result in let i = c.loop-to.invariant.long in omega arith);
      each = rw c.in_ok-push.ensures.items (one_more c.args.entries.now (plain_site c.args.site)
          c.args.from c.loop-to.values.items c.value_near.result c.loop-to.to
          c.loop-to.invariant.each c.loop-to.invariant.long (v ∙ same));
    }

pub returns : goal.returns
returns c = record {
  long = let i = c.loop-to.invariant.long in omega arith;
  each = c.loop-to.invariant.each;
}
