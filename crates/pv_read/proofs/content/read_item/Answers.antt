use Rattle.std.proofs.Common.{[], subst, arith}
use Rattle.std.proofs.lemmas.Result.{err_from_is_err_and}
use Rattle.pv_read.specs.PlainItems.{plain_item}
use Rattle.pv_read.specs.Places.{AsksForItem}
use Rattle.pv_read.proofs.OneItem.{one_item}
use Rattle.pv_read.proofs.Contents.{text_step, item_step, taken_in, markup_taken, refused_at}
use Rattle.pv_read.proofs.content.read_item.Goals as goal

pub returns-in-Some-clause-step : goal.returns-in-Some-clause-step
returns-in-Some-clause-step c =
    let begins = rw c.in-Some.is at c.in_ok-text.ensures.text in
    text_step one_item c.args.most_depth c.args.root.now c.args.elements.now c.add_kid.new.self
    c.args.rest.now c.in-Some.more.now c.in-Some.text begins c.in_ok-add_kid.ensures.inner
    c.in_ok-add_kid.ensures.outer

pub returns-in_err-item-clause-refused : goal.returns-in_err-item-clause-refused
returns-in_err-item-clause-refused c =
    let from = err_from_is_err_and c.from_residual-in_err-item.result c.from_residual-in_err-item.ensures.1 in
    rw (from.1, from.2) (refused_at c.args.most_depth c.args.root.now c.args.elements.now c.args.rest.now _ c.place.ensures c.args.count _ c.in_err-item.ensures.refused)

pub add-requires : goal.add-requires
add-requires c =
    let none = rw c.in_default.is at c.in_ok-text.ensures.text in
    markup_taken c.args.most_depth c.args.root.now _ _ c.args.rest.now (plain_item c.in_ok-item.item) c.in_ok-item.more.now none
    (taken_in c.args.most_depth c.args.root.now c.args.elements.now c.args.rest.now _ c.place.ensures (plain_item c.in_ok-item.item) c.in_ok-item.more.now c.in_ok-item.ensures.taken [])

pub returns-clause-step : goal.returns-clause-step
returns-clause-step c =
    item_step c.args.most_depth c.args.root.now c.args.elements.now c.args.rest.now _ c.place.ensures (plain_item c.in_ok-item.item) c.in_ok-item.more.now c.in_ok-item.ensures.taken
    c.add.new.self c.in_ok-whole.whole c.in_ok-whole.ensures

pub next_item-requires : goal.next_item-requires
next_item-requires c = subst (λ p. AsksForItem p c.args.rest.now) (c.place.ensures []) (omega arith)
