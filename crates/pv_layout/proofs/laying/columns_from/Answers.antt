use Rattle.std.proofs.Common.{arith, ◌+◌, ◌≡◌}
use Rattle.pv_layout.specs.Columns.{column_at}
use Rattle.pv_layout.proofs.MemberColumns.{numbers_more, numbers_none}
use Rattle.pv_layout.proofs.laying.columns_from.Goals as goal

pub loop-number-init : goal.loop-number-init
loop-number-init c = rw c.new-found.ensures.items (numbers_none (column_at c.args.columns.now) c.args.first)

pub loop-number-preserved : goal.loop-number-preserved
loop-number-preserved c =
    rw c.in_ok-push.ensures.items (numbers_more (column_at c.args.columns.now) c.args.first c.loop-number.number c.loop-number.found.items c.column_at.result
    c.loop-number.auto.number c.column_at.ensures c.loop-number.invariant (c.loop-number.number + 1) (omega arith))

pub returns : goal.returns
returns c = let e : c.loop-number.number ≡ c.args.end = let f = c.loop-number-test.false in let a = c.loop-number.auto.number in let r = c.requires in omega arith in rw e at c.loop-number.invariant
