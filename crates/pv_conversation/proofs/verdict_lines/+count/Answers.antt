use Rattle.std.proofs.Common.{ap, arith, drop, ◌≡◌, ◌≤◌}
use Rattle.pv_cache.specs.LaidMarks.{lists_in_all}
use Rattle.pv_tree.specs.Legal.{MAX_NODES}
use Rattle.pv_tree.specs.Plain.{element, no_trees, nodes_in, nodes_in_all}
use Rattle.pv_tree.specs.PlainForms.{forest, plain_end}
use Rattle.pv_tree.proofs.Forests.{forest-drop, forest-end}
use Rattle.pv_tree.proofs.Levels.{plain-Elem}
use Rattle.pv_conversation.proofs.VerdictLines.{lists_within}
use Rattle.pv_conversation.proofs.verdict_lines.+count.Goals as goal

pub lists_in-overflow_add-result : goal.lists_in-overflow_add-result
lists_in-overflow_add-result t c =
    let kids = forest c.in-Elem.kids.items in
    let counted : c.lists_in_all.result ≡ lists_in_all kids = rw c.deref.ensures.value at c.lists_in_all.ensures in
    let few : nodes_in (element c.in-Elem.name c.in-Elem.attrs (plain_end c.in-Elem.end) kids c.in-Elem.mark) ≤ MAX_NODES = rw (c.in-Elem.is, plain-Elem) at c.requires in
    omega (arith, counted, lists_within kids, few)

pub lists_in_all-lists_in-count-requires : goal.lists_in_all-lists_in-count-requires
lists_in_all-lists_in-count-requires t c =
    let step = ap nodes_in_all (forest-drop c.args.kids.now c.loop-kid.kid-index c.kid-item.result (omega arith) c.kid-item.is) in
    (omega (arith, step, c.loop-kid.invariant.few_nodes, c.decreases), omega (arith, step, c.loop-kid.invariant.few_nodes, c.requires))

pub lists_in_all-loop-kid-preserved : goal.lists_in_all-loop-kid-preserved
lists_in_all-loop-kid-preserved t c =
    let step = forest-drop c.args.kids.now c.loop-kid.kid-index c.kid-item.result (omega arith) c.kid-item.is in
    record {
      few_nodes = omega (arith, ap nodes_in_all step, c.loop-kid.invariant.few_nodes);
      goes = omega (arith, ap lists_in_all step, c.loop-kid.invariant.goes, c.lists_in-count.ensures);
    }

pub lists_in_all-returns : goal.lists_in_all-returns
lists_in_all-returns t c =
    let none : forest (drop c.loop-kid.kid-index c.args.kids.now) ≡ no_trees = forest-end c.args.kids.now c.loop-kid.kid-index (omega arith) in
    omega (arith, ap lists_in_all none, c.loop-kid.invariant.goes)

pub lists_in_all-overflow_add-count : goal.lists_in_all-overflow_add-count
lists_in_all-overflow_add-count t c =
    let step = ap lists_in_all (forest-drop c.args.kids.now c.loop-kid.kid-index c.kid-item.result (omega arith) c.kid-item.is) in
    omega (arith, step, c.loop-kid.invariant.goes, c.lists_in-count.ensures, lists_within (forest c.args.kids.now), c.requires)
