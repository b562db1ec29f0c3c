use Rattle.std.proofs.Common.{arith}
use Rattle.pv_dtd.specs.PlainForms.{plain_dtd}
use Rattle.pv_long.proofs.TaggedDocs.{lists_before, lists_end}
use Rattle.pv_long.proofs.tags.check_tags.Goals as goal

pub loop-list-init : goal.loop-list-init
loop-list-init c = λ named. named

pub loop-list-preserved : goal.loop-list-preserved
loop-list-preserved c = λ named. c.loop-list.invariant
    (lists_before (plain_dtd c.args.dtd.now) c.args.lists.now c.loop-list.list-index
    c.list-item.result (omega arith) c.list-item.is
    (rw c.as_slice.ensures.value at c.in_ok-all.ensures) named)

pub returns : goal.returns
returns c =
    c.loop-list.invariant (lists_end (plain_dtd c.args.dtd.now) c.args.lists.now
    c.loop-list.list-index (omega arith))
