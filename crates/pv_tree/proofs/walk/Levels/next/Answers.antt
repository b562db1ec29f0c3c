use Rattle.std.proofs.Common.{◌≡◌, ◌+◌, [], ap, suc, sym, ◌∙◌, arith, refl}
use Rattle.std.proofs.lemmas.List.{nil_from_length}
use Rattle.pv_tree.specs.Plain.{nodes_in, nodes_in_all}
use Rattle.pv_tree.specs.PlainForms.{forest, plain, plain_end}
use Rattle.pv_tree.specs.Walks.{left_of, nodes_above}
use Rattle.pv_tree.proofs.Forests.{length-nodes}
use Rattle.pv_tree.proofs.Levels.{plain-Elem}
use Rattle.pv_tree.proofs.Walks.{left_below, left_up, levels_above, levels_above-more, nodes_above-more}
use Rattle.pv_tree.specs.declared.walk.Siblings.{Siblings}
use Rattle.pv_tree.proofs.walk.Levels.next.Goals as goal
use Rattle.pv_tree.proofs.walk.Levels.next.Goals.{In-Elem}

pub invariant_of-self-in_default : goal.invariant_of-self-in_default
invariant_of-self-in_default c =
    record { small = omega (arith, c.nodes.self.small, ap nodes_above c.in-Some-pop.ensures.items, nodes_above-more c.pop.new.self.items c.in-Some-pop.above) }

pub nodes-smaller-in_default : goal.nodes-smaller-in_default
nodes-smaller-in_default c = omega (arith, ap levels_above c.in-Some-pop.ensures.items, levels_above-more c.pop.new.self.items c.in-Some-pop.above)

pub nodes-preserved-in_default : goal.nodes-preserved-in_default
nodes-preserved-in_default c =
    let none : c.nodes.self.here.nodes.now ≡ [] = nil_from_length c.nodes.self.here.nodes.now c.in_default.ensures.cases in
    sym (left_up c.pop.new.self.items c.nodes.self.here c.in-Some-pop.above none) ∙ ap (λ above. left_of above c.nodes.self.here) (sym c.in-Some-pop.ensures.items) ∙ c.nodes.invariant

-- the nodes of a level are those of its first and those of the others
split_nodes : (c : In-Elem) → nodes_in_all (forest c.nodes.self.here.nodes.now) ≡ suc (nodes_in_all (forest c.in-Elem.kids.items)) + nodes_in_all (forest c.in-Some.nodes.now)
split_nodes c =
    let own : nodes_in (plain c.in-Some.node.now)
    ≡ suc (nodes_in_all (forest c.in-Elem.kids.items)) = ap nodes_in (ap plain c.in-Elem.is
    ∙ plain-Elem c.in-Elem.name c.in-Elem.attrs c.in-Elem.end c.in-Elem.kids c.in-Elem.mark) in
    ap (λ nodes. nodes_in_all (forest nodes)) c.in-Some.ensures.cases.0 ∙ ap (λ n. n + nodes_in_all (forest c.in-Some.nodes.now)) own

pub invariant_of-self-in-Elem : goal.invariant_of-self-in-Elem
invariant_of-self-in-Elem c =
    let split = split_nodes (goal.at.invariant_of-self-in-Elem c).In-Elem in
    let kids = ap (λ nodes. nodes_in_all (forest nodes)) c.deref.ensures.value in
    record {
      small = omega (
        arith,
        c.nodes.self.small,
        split,
        kids,
        ap nodes_above c.in_ok-push.ensures.items,
        nodes_above-more c.nodes.self.above.items
            (record { next = c.nodes.self.here.next + 1; nodes = c.in-Some.nodes }),
      );
    }

pub returns-in-Elem-clause-given : goal.returns-in-Elem-clause-given
returns-in-Elem-clause-given c =
    let after : Siblings = record { next = c.nodes.self.here.next + 1; nodes = c.in-Some.nodes } in
    let is = ap plain c.in-Elem.is ∙ rw c.deref.ensures.value (plain-Elem c.in-Elem.name c.in-Elem.attrs c.in-Elem.end c.in-Elem.kids c.in-Elem.mark) in
    sym c.nodes.invariant ∙ rw (c.in_ok-push.ensures.items, c.as_slice.ensures, c.deref-in-Elem.ensures.value, ← c.deref.ensures.value)
    (left_below c.nodes.self.above.items c.nodes.self.here after
    (record { next = 0; nodes = c.deref.result }) c.in-Some.node.now c.in-Elem.name
    c.in-Elem.attrs (plain_end c.in-Elem.end) c.in-Elem.mark c.in-Some.ensures.cases.0 refl is refl)

pub returns-in-Elem-clause-few : goal.returns-in-Elem-clause-few
returns-in-Elem-clause-few c =
    let split = split_nodes (goal.at.returns-in-Elem-clause-few c).In-Elem in
    rw c.deref-in-Elem.ensures.value (omega (arith, c.nodes.self.small, split, length-nodes c.in-Elem.kids.items))
