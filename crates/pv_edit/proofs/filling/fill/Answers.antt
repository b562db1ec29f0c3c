use Rattle.std.proofs.Common.{arith, refl, slice_set}
use Rattle.std.proofs.lemmas.Result.{on_ok_weaker}
use Rattle.pv_edit.proofs.FilledKids.{name_put, only_kid, plain_spliced}
use Rattle.pv_edit.proofs.filling.fill.Goals as goal

pub put_name-requires : goal.put_name-requires
put_name-requires c =
    (only_kid c.args.from c.args.to c.args.kids.now.items c.index_mut.result.now (omega arith)
    (rw c.in-Named.is at c.requires.fits) c.index_mut.ensures.value).elem

pub returns-in-Others-clause-filled : goal.returns-in-Others-clause-filled
returns-in-Others-clause-filled c =
    rw c.in-Others.is (on_ok_weaker c.put_others.result
    (plain_spliced c.args.from c.args.to c.args.kids.now.items c.in-Others.nodes.items
    c.put_others.new.kids.items) c.put_others.ensures.put)

pub returns-in-Named-clause-filled : goal.returns-in-Named-clause-filled
returns-in-Named-clause-filled c =
    let items = c.args.kids.now.items in
    let kid = c.index_mut.result.now in
    let new = c.put_name.new.node in
    rw c.in-Named.is (name_put c.args.from c.args.to items (slice_set items c.args.from new)
    c.in-Named.name kid new
    (only_kid c.args.from c.args.to items kid (omega arith)
    (rw c.in-Named.is at c.requires.fits) c.index_mut.ensures.value)
    (omega arith) c.put_name.ensures refl)
