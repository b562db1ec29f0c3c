use Rattle.std.proofs.Common.{arith, refl, subst, sym}
use Rattle.pv_dtd.specs.PlainForms.{plain_dtd}
use Rattle.pv_tree.specs.Lists.{lists_of}
use Rattle.pv_tree.specs.PlainDocs.{plain_doc}
use Rattle.pv_tables.specs.Values.{HasWholeValue}
use Rattle.pv_tables.specs.declared.tables.Table.{Table}
use Rattle.pv_table_check.proofs.RemainingTotals.{no_value, one_more, too_little}
use Rattle.pv_table_check.proofs.totals.tables_add_up.Goals as goal

pub returns-in_default : goal.returns-in_default
returns-in_default c = (
  λ t. absurd cc,
  λ h. absurd (no_value (plain_dtd c.args.dtd.now) c.args.root.now (plain_doc c.args.doc.now)
      c.args.tables.now c.args.total c.loop-table.table-index c.loop-table.left
      c.loop-table.invariant c.loop-table-test.true c.table-item.result
      (λ k v. c.in_ok-value.ensures.none (rw c.in_default.is refl) k
      (subst (λ (t : Table). HasWholeValue (plain_dtd c.args.dtd.now) c.args.root.now
      (lists_of (plain_doc c.args.doc.now)) t k) (sym c.table-item.is) v)) h),
)

pub returns-in_default-checked_sub : goal.returns-in_default-checked_sub
returns-in_default-checked_sub c =
    let has = rw c.in-Some.is at c.in_ok-value.ensures.value in (
      λ t. absurd cc,
      λ h. absurd (too_little (plain_dtd c.args.dtd.now) c.args.root.now (plain_doc c.args.doc.now)
          c.args.tables.now c.args.total c.loop-table.table-index c.loop-table.left
          c.loop-table.invariant c.loop-table-test.true c.table-item.result c.list_at_law.ensures
          c.in-Some.value (subst (λ (t : Table). HasWholeValue (plain_dtd c.args.dtd.now)
          c.args.root.now (lists_of (plain_doc c.args.doc.now)) t c.in-Some.value) c.table-item.is has)
          (let s = c.in_default-checked_sub.ensures in let f = c.from.ensures in omega arith) h),
    )

pub loop-table-preserved : goal.loop-table-preserved
loop-table-preserved c =
    let has = rw c.in-Some.is at c.in_ok-value.ensures.value in
    one_more (plain_dtd c.args.dtd.now) c.args.root.now (plain_doc c.args.doc.now) c.args.tables.now
    c.args.total c.loop-table.table-index c.loop-table.left c.loop-table.invariant
    c.loop-table-test.true c.table-item.result c.list_at_law.ensures c.in-Some.value
    (subst (λ (t : Table). HasWholeValue (plain_dtd c.args.dtd.now) c.args.root.now
    (lists_of (plain_doc c.args.doc.now)) t c.in-Some.value) c.table-item.is has)
    c.in-Some-checked_sub.less (let s = c.in-Some-checked_sub.ensures in let f = c.from.ensures in omega arith)
