use Rattle.std.proofs.Common.{ap, arith, drop, ◌≡◌, ◌≤◌}
use Rattle.pv_tree.specs.Legal.{MAX_NODES}
use Rattle.pv_tree.specs.Plain.{element, no_trees, nodes_in, nodes_in_all}
use Rattle.pv_tree.specs.PlainForms.{forest, plain_end}
use Rattle.pv_tree.proofs.Forests.{forest-drop, forest-end}
use Rattle.pv_tree.proofs.Levels.{plain-Elem}
use Rattle.pv_cache.specs.WellMarked.{bad_in_all}
use Rattle.pv_cache.proofs.TreeMarks.{all-bad-within, own-bad-small}
use Rattle.pv_cache.proofs.bad_lists.+count.Goals as goal

pub bad_in-overflow_add-result : goal.bad_in-overflow_add-result
bad_in-overflow_add-result t c =
    let kids = forest c.in-Elem.kids.items in
    let counted : c.bad_in_all.result ≡ bad_in_all kids =
    rw c.deref.ensures.value at c.bad_in_all.ensures in
    let few : nodes_in
    (element c.in-Elem.name c.in-Elem.attrs (plain_end c.in-Elem.end) kids c.in-Elem.mark)
    ≤ MAX_NODES = rw (c.in-Elem.is, plain-Elem) at c.requires in
    omega (
      arith,
      own-bad-small c.in-Elem.mark.verdict,
      c.own_bad.ensures,
      counted,
      all-bad-within kids,
      few,
    )

pub bad_in_all-bad_in-bad-requires : goal.bad_in_all-bad_in-bad-requires
bad_in_all-bad_in-bad-requires t c =
    let step =
    ap nodes_in_all
    (forest-drop c.args.kids.now c.loop-kid.kid-index c.kid-item.result
    (omega arith) c.kid-item.is) in (
      omega (arith, step, c.loop-kid.invariant.few_nodes, c.decreases),
      omega (arith, step, c.loop-kid.invariant.few_nodes, c.requires),
    )

pub bad_in_all-loop-kid-preserved : goal.bad_in_all-loop-kid-preserved
bad_in_all-loop-kid-preserved t c =
    let step =
    forest-drop c.args.kids.now c.loop-kid.kid-index c.kid-item.result
    (omega arith) c.kid-item.is in
    record {
      few_nodes = omega (arith, ap nodes_in_all step, c.loop-kid.invariant.few_nodes);
      goes = omega (arith, ap bad_in_all step, c.loop-kid.invariant.goes, c.bad_in-bad.ensures);
    }

pub bad_in_all-returns : goal.bad_in_all-returns
bad_in_all-returns t c =
    let none : forest (drop c.loop-kid.kid-index c.args.kids.now) ≡ no_trees =
    forest-end c.args.kids.now c.loop-kid.kid-index (omega arith) in
    omega (arith, ap bad_in_all none, c.loop-kid.invariant.goes)

pub bad_in_all-overflow_add-bad : goal.bad_in_all-overflow_add-bad
bad_in_all-overflow_add-bad t c =
    let step =
    ap bad_in_all
    (forest-drop c.args.kids.now c.loop-kid.kid-index c.kid-item.result
    (omega arith) c.kid-item.is) in
    omega (
      arith,
      step,
      c.loop-kid.invariant.goes,
      c.bad_in-bad.ensures,
      all-bad-within (forest c.args.kids.now),
      c.requires,
    )
