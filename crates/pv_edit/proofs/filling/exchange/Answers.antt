use Rattle.std.proofs.Common.{◌∙◌, ◌++◌, ◌-◌, ◌+◌, ap, arith, vec_len}
use Rattle.pv_edit.proofs.ExchangedItems.{exchanged_items, exchanged_left, exchanged_taken, moved_count}
use Rattle.pv_edit.proofs.filling.exchange.Goals as goal

pub returns-clause-items : goal.returns-clause-items
returns-clause-items c =
    let ks = c.args.kids.now.items in
    let ns = c.args.nodes.items in
    let from = c.args.from in
    let to = c.args.to in
    let both = c.min-both.result in
    let more = c.len-2.result - both in
    let left = c.take_range-gone.new.kids.items in
    let put = c.move_behind.ensures.items
    ∙ ap (λ l. left ++ l) (exchanged_left from (to - both) to more ks ns c.trade.new.kids.items
    (omega arith) (omega arith) (omega arith) c.trade.ensures.kids (more + both)
    c.trade.new.nodes.items c.take_range-gone-2.new.kids.items (omega arith) (omega arith)
    c.trade.ensures.nodes c.take_range-gone-2.ensures.items) in
    let count = moved_count from (to - both) (vec_len c.args.kids.now)
    (vec_len c.take_range-gone.new.kids) more (vec_len c.take_range-gone-2.new.kids)
    (vec_len c.move_behind.new.kids) (omega arith) (omega arith)
    (c.take_range-gone.ensures.len ∙ c.trade.ensures.len) (omega arith)
    c.move_behind.ensures.len in
    exchanged_items from (to - both) to more ks ns c.trade.new.kids.items (omega arith)
    (omega arith) (omega arith) c.trade.ensures.kids
    (vec_len c.move_behind.new.kids - from - more) left c.move_behind.new.kids.items
    c.move_last.new.kids.items (omega arith) (count ∙ c.move_behind.new.kids.ok.0)
    c.take_range-gone.ensures.items put c.move_last.ensures

pub returns-clause-taken : goal.returns-clause-taken
returns-clause-taken c =
    let to = c.args.to in
    let both = c.min-both.result in
    let more = c.len-2.result - both in
    exchanged_taken c.args.from (to - both) to more c.args.kids.now.items c.args.nodes.items
    c.trade.new.kids.items (omega arith) (omega arith) (omega arith) c.trade.ensures.kids
    (more + both) c.trade.new.nodes.items c.args.taken.items c.take_range-gone.result.items
    c.take_range-gone-2.result.items (omega arith) (omega arith) c.trade.ensures.nodes
    c.requires.empty c.take_range-gone.ensures.taken c.take_range-gone-2.ensures.taken
