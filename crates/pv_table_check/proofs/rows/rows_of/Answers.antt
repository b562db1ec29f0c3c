use Rattle.std.proofs.Common.{arith, length}
use Rattle.std.proofs.lemmas.List.{length_push}
use Rattle.pv_rules.specs.PlainForms.{plain_site}
use Rattle.pv_table_check.specs.Rows.{AreValuesFrom}
use Rattle.pv_table_check.specs.declared.rows.Row.{Row}
use Rattle.pv_table_check.proofs.RowValues.{more_each}
use Rattle.pv_table_check.proofs.rows.rows_of.Goals as goal

pub loop-from-preserved : goal.loop-from-preserved
loop-from-preserved c =
    let es = c.args.entries.now in
    let s = plain_site c.args.site in
    let row = c.in_ok-row_from.field-0 in
    let here : AreValuesFrom es s c.args.most (length c.loop-from.rows.items) row.values.items = rw c.loop-from.invariant.long c.in_ok-row_from.ensures in
    record {
      long = rw c.in_ok-push.ensures.items (let l = length_push c.loop-from.rows.items row in let i = c.loop-from.invariant.long in omega arith);
      each = rw c.in_ok-push.ensures.items (more_each (λ i (r : Row). AreValuesFrom es s c.args.most i r.values.items) c.loop-from.rows.items row c.loop-from.invariant.each here);
    }

pub returns : goal.returns
returns c = record {
  long = let i = c.loop-from.invariant.long in omega arith;
  each = c.loop-from.invariant.each;
}
