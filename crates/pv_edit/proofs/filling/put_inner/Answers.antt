use Rattle.std.proofs.Common.{◌∙◌, ap, arith, get_or, slice_set}
use Rattle.pv_edit.proofs.FilledKids.{inner_put, only_kid}
use Rattle.pv_edit.proofs.filling.put_inner.Goals as goal

pub take_kids-inner-requires : goal.take_kids-inner-requires
take_kids-inner-requires c =
    let kid = c.index_mut.result.now in
    (only_kid c.args.from c.args.to c.args.kids.now.items kid (omega arith) c.requires.one
    (c.index_mut.ensures.value
    ∙ ap (λ l. get_or l c.args.from kid) c.make_room.ensures.items)).elem

pub returns-clause-put : goal.returns-clause-put
returns-clause-put c =
    let kid = c.index_mut.result.now in
    let bare = c.take_kids-inner.new.node in
    let items = c.args.kids.now.items in
    inner_put c.args.from c.args.to items
    (slice_set c.make_room.new.kids.items c.args.from bare) c.take_kids-inner.result.items
    c.exchange.new.kids.items kid bare
    (only_kid c.args.from c.args.to items kid (omega arith) c.requires.one
    (c.index_mut.ensures.value
    ∙ ap (λ l. get_or l c.args.from kid) c.make_room.ensures.items))
    (ap (λ l. slice_set l c.args.from bare) c.make_room.ensures.items)
    c.take_kids-inner.ensures.taken c.exchange.ensures.items
