use Rattle.std.proofs.Common.{arith, length, ◌+◌, ◌-◌}
use Rattle.std.proofs.lemmas.Slice.{between_to_end}
use Rattle.pv_table_check.proofs.RowValues.{from_behind, to_behind}
use Rattle.pv_table_check.proofs.sums.row_holds.Goals as goal

pub returns : goal.returns
returns c = λ cases es l s most o lv sv.
    let one = c.args.one.now in
    let ls = c.args.lefts.now.values.items in
    let ss = c.args.seconds.now.values.items in
    let n = c.least_taken-skipped.result in
    let is = c.least_taken-skipped.ensures in
    let start = (one.to - one.from) + n in
    let within = rw (c.deref.ensures.value, c.deref-2.ensures.value, between_to_end ls start (length ls) (omega arith), between_to_end ss n (length ss) (omega arith)) at c.are_within.ensures in (
      λ t. to_behind cases es most o l s one.from one.to one.value c.args.inner ls ss lv sv c.requires.span n is (within.0 t),
      λ h. within.1 (from_behind cases es most o l s one.from one.to one.value c.args.inner ls ss lv sv c.requires.span n is h),
    )
