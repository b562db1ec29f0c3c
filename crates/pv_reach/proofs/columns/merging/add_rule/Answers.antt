use Rattle.pv_reach.specs.Merging.{column_head, column_heads}
use Rattle.pv_reach.proofs.StandInColumns.{adds_twice}
use Rattle.pv_reach.proofs.columns.merging.add_rule.Goals as goal

pub returns-in_ok-add_further-clause-added : goal.returns-in_ok-add_further-clause-added
returns-in_ok-add_further-clause-added c =
    let rules = c.args.rules.now in let m = c.args.merging.now in
    adds_twice rules m c.args.new.now.items c.add_merged.new.new.items c.add_further.new.new.items
    (adds_twice rules m c.args.new.now.items c.add_followers.new.new.items c.add_merged.new.new.items c.in_ok-add_followers.ensures c.in_ok-add_merged.ensures.added) c.in_ok-add_further.ensures

pub returns-in_ok-add_further-clause-has : goal.returns-in_ok-add_further-clause-has
returns-in_ok-add_further-clause-has c = λ r at.
    let heads = c.args.merging.now.heads.items in
    c.in_ok-add_further.ensures.grow.keeps (column_head heads r.left) r.token (column_heads heads r.columns.items) (c.in_ok-add_merged.ensures.has r at)

pub returns-else-is_last-clause-added : goal.returns-else-is_last-clause-added
returns-else-is_last-clause-added c =
    adds_twice c.args.rules.now c.args.merging.now c.args.new.now.items c.add_followers.new.new.items c.add_merged.new.new.items c.in_ok-add_followers.ensures c.in_ok-add_merged.ensures.added
