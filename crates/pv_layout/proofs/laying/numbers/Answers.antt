use Rattle.std.proofs.Common.{arith, length-append}
use Rattle.pv_layout.proofs.MemberColumns.{count_more}
use Rattle.pv_layout.proofs.laying.numbers.Goals as goal

pub loop-number-preserved : goal.loop-number-preserved
loop-number-preserved c =
    let i = c.loop-number.invariant in
    rw c.in_ok-push.ensures.items (record {
      count = let e = i.count in simp length-append (omega arith);
      each = λ x l. count_more c.loop-number.numbers.items c.loop-number.number i.count i.each x (omega arith);
    })
