use Rattle.std.proofs.Common.{◌≡◌, arith, rules, ◌∙◌, get_or, slice_get, Some, None}
use Rattle.std.proofs.lemmas.Option.{gets}
use Rattle.std.proofs.lemmas.Grind.{common_steps}
use Rattle.pv_tree.proofs.Levels.{node_below-kid, node_below-none}
use Rattle.pv_tree.proofs.nodes.Node.find.Goals as goal

pub returns-in_err-at : goal.returns-in_err-at
returns-in_err-at c =
    let h : slice_get c.kids.result.now (get_or c.args.path.now c.loop-place.place-index 0) ≡ None = grind (arith, common_steps, gets, c.in_err-at.ensures.lookup) in
    let none = node_below-none c.args.path.now c.loop-place.place-index _ c.kids.result.now (omega arith) c.kids.ensures h ∙ c.loop-place.invariant in
    search (rules, none)

pub loop-place-preserved : goal.loop-place-preserved
loop-place-preserved c =
    let h : slice_get c.kids.result.now (get_or c.args.path.now c.loop-place.place-index 0) ≡ Some c.in_ok-at.at.now = grind (arith, common_steps, gets, c.in_ok-at.ensures.lookup) in
    node_below-kid c.args.path.now c.loop-place.place-index _ c.kids.result.now c.in_ok-at.at.now (omega arith) c.kids.ensures h ∙ c.loop-place.invariant
