use Rattle.std.proofs.Common.{[], arith, drop, refl, ◌+◌, ◌++◌, ◌∷◌}
use Rattle.pv_tree.specs.Lists.{Listed, an_element, lists_at, lists_from}
use Rattle.pv_tree.specs.PlainForms.{forest, plain}
use Rattle.pv_tree.specs.declared.nodes.Mark.{Mark}
use Rattle.pv_tree.proofs.Forests.{forest-drop}
use Rattle.pv_tree.proofs.Levels.{plain-Elem}
use Rattle.pv_missing.proofs.ListPaths.{from_first}
use Rattle.pv_fresh.proofs.NarrowLists.{few_tokens}
use Rattle.pv_parallel.proofs.JobLists.{lists_end}
use Rattle.pv_parallel.proofs.ListTallies.{tallies_both, tallies_none, tallies_one}
use Rattle.pv_parallel.proofs.sizes.+sizes.Goals as goal

pub count_kids-loop-kid-preserved : goal.count_kids-loop-kid-preserved
count_kids-loop-kid-preserved t c =
    let i = c.loop-kid.kid-index in
    let kid = c.kid-item.result in
    let rest = forest (drop (i + 1) c.args.kids.now) in
    let step = forest-drop c.args.kids.now i kid (omega arith) c.kid-item.is in
    record {
      counted = λ path last more.
          let whole = from_first path i (forest (drop i c.args.kids.now)) (plain kid) rest step in
          c.loop-kid.invariant.counted path last (rw whole (tallies_both (lists_at (path ++ i ∷ [])
          (plain kid)) (lists_from path (i + 1) rest) c.loop-kid.tally c.count_node.new.tally
          last (c.if-not-count_node.ensures.counted refl (path ++ i ∷ [])) more));
      bounded = let own = c.if-not-count_node.ensures.bounded in let so_far = c.loop-kid.invariant.bounded in omega arith;
    }

pub count_kids-returns-clause-counted : goal.count_kids-returns-clause-counted
count_kids-returns-clause-counted t c = λ e path.
    let none = lists_end path c.loop-kid.kid-index c.loop-kid.kid-index c.args.kids.now (omega arith) in
    c.loop-kid.invariant.counted path c.loop-kid.tally (rw none (tallies_none c.loop-kid.tally))

pub count_node-returns-clause-counted : goal.count_node-returns-clause-counted
count_node-returns-clause-counted t c = λ e path.
    let kids = forest c.in-Elem.kids.items in
    let list : Listed Mark = record { path = path; owner = an_element c.in-Elem.name; kids = kids } in
    let below = rw c.deref.ensures.value at (c.count_kids.ensures.counted e path) in
    rw (c.in-Elem.is, plain-Elem) (tallies_both (list ∷ []) (lists_from path 0 kids) c.args.tally.now _ c.count_kids.new.tally
    (tallies_one list c.args.tally.now _ c.len.result refl c.max-tally.ensures (λ g. let few = few_tokens g c.in-Elem.kids.items in let n = c.len.ensures in omega arith)) below)
