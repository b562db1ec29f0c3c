use Rattle.pv_read.specs.PlainItems.{plain_item}
use Rattle.pv_read.proofs.SomeMeaning.{tested, none_means, one_means, has_one_meaning}
use Rattle.pv_read.proofs.laws.has_meaning_law.Goals as goal

pub items-init : goal.items-init
items-init c = has_one_meaning c.args.root.now c.args.bytes.now c.after_byte_order_mark-rest.ensures.behind.0 c.after_byte_order_mark-rest.result.now c.after_byte_order_mark-rest.ensures.behind.1

pub items-preserved : goal.items-preserved
items-preserved c = λ means. c.items.invariant (one_means c.args.root.now c.items.rest.now
    (tested c.begins_subset-subset.result c.begins_subset-subset.ensures)
    (plain_item c.in-Some.field-0-0) c.in-Some.more.now c.in-Some.ensures.item means)

pub returns : goal.returns
returns c = c.items.invariant (none_means c.args.root.now c.items.rest.now (tested c.begins_subset-subset-2.result c.begins_subset-subset-2.ensures) c.in_default.ensures.item)
