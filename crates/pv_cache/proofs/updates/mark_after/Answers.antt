use Rattle.std.proofs.Common.{arith}
use Rattle.pv_cache.proofs.ExchangedKids.{came-told, marks-same}
use Rattle.pv_cache.proofs.updates.mark_after.Goals as goal

pub told_in-came-requires-clause-left : goal.told_in-came-requires-clause-left
told_in-came-requires-clause-left c =
    let t = came-told c.args.exchange.now c.args.kids.now c.requires.tells.0 in
    omega (arith, t.in_left, c.requires.counted.left)

pub told_in-came-requires-clause-nodes : goal.told_in-came-requires-clause-nodes
told_in-came-requires-clause-nodes c =
    let t = came-told c.args.exchange.now c.args.kids.now c.requires.tells.0 in
    omega (arith, t.in_nodes, c.requires.counted.nodes)

pub overflow_add-left : goal.overflow_add-left
overflow_add-left c =
    let t = came-told c.args.exchange.now c.args.kids.now c.requires.tells.0 in
    omega (
      arith,
      t.in_left,
      c.requires.tells.1,
      c.requires.counted.left,
      c.own_left.ensures,
      c.told_in-came.ensures.left,
    )

pub overflow_add-result : goal.overflow_add-result
overflow_add-result c =
    let t = came-told c.args.exchange.now c.args.kids.now c.requires.tells.0 in
    omega (
      arith,
      t.in_left,
      c.requires.tells.1,
      c.requires.counted.left,
      c.own_left.ensures,
      c.own_left-2.ensures,
      c.told_in-came.ensures.left,
    )

pub overflow_add-result-2 : goal.overflow_add-result-2
overflow_add-result-2 c =
    let t = came-told c.args.exchange.now c.args.kids.now c.requires.tells.0 in
    omega (
      arith,
      t.in_nodes,
      c.requires.tells.2,
      c.requires.counted.nodes,
      c.told_in-came.ensures.nodes,
    )

pub returns : goal.returns
returns c =
    let t = came-told c.args.exchange.now c.args.kids.now c.requires.tells.0 in
    marks-same c.args.update.now.verdict c.args.update.now.stamp _ _ _ _
    (omega (
      arith,
      t.in_left,
      c.requires.tells.1,
      c.own_left.ensures,
      c.own_left-2.ensures,
      c.told_in-came.ensures.left,
    ))
    (omega (arith, t.in_nodes, c.requires.tells.2, c.told_in-came.ensures.nodes))
