-- What the marks of the kids that give way to a change tell can be counted.
use Rattle.std.proofs.Common.{◌≡◌, sym, ℕ, zero, suc, ◌<◌, ◌≤◌, ◌^◌, true, false, List, [], ◌∷◌}
use Rattle.std.proofs.Common.{arith, subst}
use Rattle.std.specs.List.{between}
use Rattle.std.proofs.Math.Bridge.{le_prop}
use Rattle.std.proofs.Math.Logic.{∥∥₁_elim}
use Rattle.pv_dtd.specs.Plain.{PlainDtd}
use Rattle.pv_edit.specs.Changes.{Change}
use Rattle.pv_edit.specs.FittingChanges.{CanChange}
use Rattle.pv_edit.specs.Reasons.{is_top, kids_at}
use Rattle.pv_edit.proofs.ListsKeptByUndo.{can-made}
use Rattle.pv_edit.proofs.Levels.{forest-trees}
use Rattle.pv_edit.proofs.NodePlaces.{at_node}
use Rattle.pv_edit.proofs.DocumentAsElement.{Made, owner-kids, top-kids}
use Rattle.pv_tree.specs.Legal.{MAX_NODES}
use Rattle.pv_tree.specs.Plain.{PlainDoc, Tree, forest_of, nodes_in}
use Rattle.pv_tree.specs.declared.nodes.Mark.{Mark}
use Rattle.pv_cache.specs.WellMarked.{EachListIn, IsWellMarked, TellsList, told_left_in}
use Rattle.pv_cache.specs.WellMarked.{told_nodes_in}
use Rattle.pv_cache.proofs.ImpossibleCounts.{few-between}
use Rattle.pv_cache.proofs.Docs.{in-root}
use Rattle.pv_cache.proofs.NodeLists.{all-between, node-has}
use Rattle.pv_cache.proofs.Tasks.{task-few, task-suits}
use Rattle.pv_cache.proofs.TreeMarks.{all-left-within, all-nodes-told}

module _ (g : PlainDtd) (root : List ℕ) (doc : PlainDoc Mark) (c : Change Mark) where
  kids-marked : IsWellMarked g root doc → (list : List ℕ) (ts : List (Tree Mark)) →
      Made doc.mark list c doc.root ts → EachListIn (TellsList g root) (forest_of ts)
  kids-marked w [] ts d =
      subst (λ (l : List (Tree Mark)). EachListIn (TellsList g root) (forest_of l))
      (sym (top-kids d.owner)) (w.elements, tt)
  kids-marked w (zero ∷ path) ts d =
      let o = d.owner in
      let has = node-has (TellsList g root) (in-root o.node) w.elements in
      subst (λ (l : List (Tree Mark)). EachListIn (TellsList g root) (forest_of l)) o.are
      (rw (forest-trees o.kids) has.1)
  kids-marked w (suc k ∷ path) ts d = let h = at_node d.owner.node in absurd cc

  module _ (can : CanChange c.list c doc.root) (unshort : is_top c.list ≡ true →
      c.shorten ≡ false) (small : nodes_in doc.root ≤ MAX_NODES) where
    abbrev gone : List (Tree Mark)
    gone = between c.from c.to (kids_at c.list doc.root)

    gone-marked : IsWellMarked g root doc → EachListIn (TellsList g root) (forest_of gone)
    gone-marked w =
        let d = can-made doc.mark c.list c doc.root can unshort in
        let all =
        subst (λ (l : List (Tree Mark)). EachListIn (TellsList g root) (forest_of l))
        (sym (owner-kids d.1.owner)) (kids-marked w c.list d.0 d.1) in
        all-between (TellsList g root) (kids_at c.list doc.root) c.from c.to d.1.order all

    gone-few : IsWellMarked g root doc → (told_left_in (forest_of gone) ≤ MAX_NODES) ×
        (told_nodes_in (forest_of gone) ≤ MAX_NODES)
    gone-few w =
        let m = gone-marked w in
        let l = all-left-within g root (forest_of gone) m in
        let n = all-nodes-told g root (forest_of gone) m in
        let s = task-suits doc.root c can unshort doc.mark in
        let few = few-between (kids_at c.list doc.root) c.from c.to s.order in
        let all = task-few doc.root c can unshort doc.mark in
        (omega arith, omega arith)

    pub gone-left : ∥ IsWellMarked g root doc ∥₁ → told_left_in (forest_of gone) < 2 ^ 64
    gone-left m = ∥∥₁_elim m le_prop (λ w. let f = (gone-few w).0 in omega arith)

    pub gone-nodes : ∥ IsWellMarked g root doc ∥₁ → told_nodes_in (forest_of gone) < 2 ^ 64
    gone-nodes m = ∥∥₁_elim m le_prop (λ w. let f = (gone-few w).1 in omega arith)
