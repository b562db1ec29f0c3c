use Rattle.std.proofs.Common.{◌∙◌, arith, refl, slice_set}
use Rattle.pv_edit.proofs.FilledKids.{around_put}
use Rattle.pv_edit.proofs.filling.put_around.Goals as goal

pub returns-clause-put : goal.returns-clause-put
returns-clause-put c =
    let once = c.exchange-inner.new.kids.items in
    around_put c.args.from c.args.to c.args.kids.now.items once c.exchange-inner.result.items
    (slice_set once c.args.from c.put_kids.new.node) c.args.bare c.index_mut.result.now
    c.put_kids.new.node (omega arith)
    (c.exchange-inner.ensures.items
    ∙ rw (
      c.make_room.ensures.items,
      c.push_reserved.ensures.items,
      c.in_ok-nodes.ensures.items,
    ) refl)
    (c.exchange-inner.ensures.taken ∙ rw c.make_room.ensures.items refl)
    c.index_mut.ensures.value c.put_kids.ensures refl
