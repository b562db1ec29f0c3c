use Rattle.std.proofs.Common.{Global, Vec, ap, arith, rules, subst, suc, ◌+◌, ◌∙◌, ◌≡◌}
use Rattle.pv_tree.specs.Plain.{element, nodes_in}
use Rattle.pv_tree.specs.PlainForms.{forest, plain, plain_end}
use Rattle.pv_tree.specs.declared.nodes.Node.{Node, the_lemmas}
use Rattle.pv_tree.proofs.Levels.{plain-Elem}
use Rattle.pv_cache.specs.LaidMarks.{lay_kids}
use Rattle.pv_cache.specs.Updates.{IsCounted, update_element}
use Rattle.pv_cache.proofs.LaidLevels.{few_kid, kid_smaller, laid_counted, more_laid}
use Rattle.pv_cache.proofs.laying.+lay.Goals as goal

pub lay_kids-lay_node-next-requires : goal.lay_kids-lay_node-next-requires
lay_kids-lay_node-next-requires t c =
    let vs = c.args.verdicts.now.verdicts in
    let k =
    few_kid vs c.args.number c.args.kids.now.items c.kids.kids.items c.kids.i c.kids.next
    c.kids.invariant c.index_mut.result.now (omega (arith, c.kids-test.true, c.len.ensures))
    c.index_mut.ensures.value in
    let s =
    kid_smaller vs c.args.number c.args.kids.now.items c.kids.kids.items c.kids.i c.kids.next
    c.kids.invariant c.index_mut.result.now (omega (arith, c.kids-test.true, c.len.ensures))
    c.index_mut.ensures.value in
    (omega (arith, s, c.decreases), omega (arith, k, c.requires.small))

pub lay_kids-kids-preserved : goal.lay_kids-kids-preserved
lay_kids-kids-preserved t c =
    let vs = c.args.verdicts.now.verdicts in
    rw c.lay_node-next.ensures.next
    (more_laid vs c.args.number c.args.kids.now.items c.kids.kids.items c.kids.i c.kids.next
    c.kids.invariant c.index_mut.result.now (omega (arith, c.kids-test.true, c.len.ensures))
    c.index_mut.ensures.value c.lay_node-next.new.node c.lay_node-next.ensures.laid)

pub lay_node-update_element-requires-clause-counted :
    goal.lay_node-update_element-requires-clause-counted
lay_node-update_element-requires-clause-counted t c =
    let vs = c.args.verdicts.now.verdicts in
    let kids = forest c.in-Elem.kids.items in
    let now = forest c.lay_kids-next.new.kids.items in
    let is =
    ap plain c.in-Elem.is
    ∙ plain-Elem c.in-Elem.name c.in-Elem.attrs c.in-Elem.end c.in-Elem.kids c.in-Elem.mark in
    let next : c.args.number + 1 ≡ suc c.args.number = omega arith in
    let laid : now ≡ lay_kids vs (suc c.args.number) kids =
    c.lay_kids-next.ensures.laid
    ∙ ap (λ (k : Vec Node Global). lay_kids vs (c.args.number + 1) (forest k.items))
    c.in-Elem.kids-is ∙ ap (λ n. lay_kids vs n kids) next in
    let before =
    element c.in-Elem.name c.in-Elem.attrs (plain_end c.in-Elem.end) kids c.in-Elem.mark in
    let after =
    element c.in-Elem.name c.in-Elem.attrs (plain_end c.in-Elem.end) now c.in-Elem.mark in
    let counted : IsCounted (update_element c.nth_verdict.result 0 after) =
    rw (c.nth_verdict.ensures, laid)
    (laid_counted vs c.args.number before (omega (arith, ap nodes_in is, c.requires.small))) in
    subst (λ n. IsCounted (update_element c.nth_verdict.result 0 n)) {x = after}
    (rw c.in-Elem.is (search (rules, the_lemmas))) counted
