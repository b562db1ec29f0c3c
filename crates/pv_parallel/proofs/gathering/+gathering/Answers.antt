use Rattle.std.proofs.Common.{List, [], ap, arith, refl, subst, sym, ℕ, ◌∷◌, ◌≡◌}
use Rattle.std.proofs.lemmas.Grind.{common_steps}
use Rattle.std.proofs.lemmas.Result.{on_ok_weaker}
use Rattle.pv_tree.specs.Lists.{Listed, an_element, lists_from}
use Rattle.pv_tree.specs.PlainForms.{forest}
use Rattle.pv_tree.specs.declared.nodes.Mark.{Mark}
use Rattle.pv_tree.specs.declared.nodes.Node.{Node}
use Rattle.pv_tree.proofs.Levels.{plain-Elem}
use Rattle.pv_fresh.proofs.NarrowLists.{few_tokens}
use Rattle.pv_parallel.specs.Jobs.{Adds}
use Rattle.pv_parallel.proofs.JobLists.{adds_both, adds_none, few_in_all, front_few, front_shorter, front_smaller, front_then, node_taken, run_taken}
use Rattle.pv_parallel.proofs.gathering.+gathering.Goals as goal

pub add_nodes-runs-preserved : goal.add_nodes-runs-preserved
add_nodes-runs-preserved t c =
    let few = front_few c.runs.rest.now c.in_ok-rest.rest.now c.runs.gathering c.add_front.new.gathering c.in_ok-rest.ensures in
    let smaller = front_smaller c.runs.rest.now c.in_ok-rest.rest.now c.runs.gathering c.add_front.new.gathering c.in_ok-rest.ensures in
    record {
      adds = λ last more. c.runs.invariant.adds last (front_then c.runs.rest.now c.in_ok-rest.rest.now c.runs.gathering c.add_front.new.gathering c.in_ok-rest.ensures last more);
      few = let so_far = c.runs.invariant.few in omega arith;
      smaller = let so_far = c.runs.invariant.smaller in omega arith;
    }

pub add_nodes-runs-smaller : goal.add_nodes-runs-smaller
add_nodes-runs-smaller t c = front_shorter c.runs.rest.now c.in_ok-rest.rest.now c.runs.gathering c.add_front.new.gathering c.in_ok-rest.ensures

pub add_nodes-returns-clause-added : goal.add_nodes-returns-clause-added
add_nodes-returns-clause-added t c =
    let none : c.runs.rest.now ≡ [] = grind (arith, common_steps) in
    c.runs.invariant.adds c.runs.gathering (λ path i. subst (λ (l : List Node). Adds (lists_from path i (forest l)) c.runs.gathering c.runs.gathering) (sym none) (adds_none c.runs.gathering))

pub add_front-add-requires : goal.add_front-add-requires
add_front-add-requires t c =
    let few = few_in_all c.args.nodes.now c.small_front-front.result.count c.small_front-front.result c.small_front-front.ensures.lists in
    let room = c.requires.room in
    omega arith

pub add_front-returns-then-front-gt0 : goal.add_front-returns-then-front-gt0
add_front-returns-then-front-gt0 t c =
    let front = c.split_at.result.0.now in
    run_taken c.args.nodes.now c.split_at.result.1.now front c.small_front-front.result.count c.small_front-front.result c.args.gathering.now c.add.new.self
    c.if-front-gt0.true c.small_front-front.ensures.within c.split_at.ensures.front c.split_at.ensures.back c.small_front-front.ensures.lists
    (λ path i m. c.in_ok-add.ensures.added (lists_from path i (forest front)) (path, i, refl) m.counted m.narrow) c.in_ok-add.ensures.count

pub add_front-returns : goal.add_front-returns
add_front-returns t c =
    node_taken c.args.nodes.now c.split_at-2.result.1.now c.index-nodes-0.result c.args.gathering.now c.add_large.new.gathering c.requires.some c.index-nodes-0.is c.split_at-2.ensures.back
    c.in_ok-add_large.ensures.added c.in_ok-add_large.ensures.count

pub add_large-returns-clause-added : goal.add_large-returns-clause-added
add_large-returns-clause-added t c =
    let kids = forest c.in-Elem.kids.items in
    let list : List ℕ → Listed Mark = λ path. record { path = path; owner = an_element c.in-Elem.name; kids = kids } in
    rw (c.in-Elem.is, plain-Elem) (on_ok_weaker c.add_nodes.result
    (λ more path. adds_both (list path ∷ []) (lists_from path 0 kids) c.args.gathering.now c.add.new.self c.add_nodes.new.gathering
    (c.in_ok-add.ensures.added (list path ∷ [])
    (list path, refl, ap an_element (sym c.as_slice.ensures), rw c.deref.ensures.value refl, tt)
    refl (λ g. let few = few_tokens g c.in-Elem.kids.items in let n = c.len.ensures in omega arith, tt))
    (rw c.deref-2.ensures.value at (more path 0))) c.add_nodes.ensures.added)

pub add_large-returns-clause-count : goal.add_large-returns-clause-count
add_large-returns-clause-count t c =
    rw (c.in-Elem.is, plain-Elem) (on_ok_weaker c.add_nodes.result (λ few. let own = c.in_ok-add.ensures.count in omega arith) (rw c.deref-2.ensures.value at c.add_nodes.ensures.count))
