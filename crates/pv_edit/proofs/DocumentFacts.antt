-- What a document keeps holds after an edit.
use Rattle.std.proofs.Common.{◌≡◌, sym, refl, ℕ, zero, suc, ◌+◌, ◌≤◌, true, false, Bool, List, [], ◌∷◌, None, arith, subst}
use Rattle.std.proofs.Math.Logic.{∥∥₁_map}
use Rattle.std.proofs.lemmas.Bool.{ltb-false}
use Rattle.std.specs.List.{between}
use Rattle.std.specs.Str.{chars, is_utf8}
use lib.Utf8.{encode}
use Rattle.pv_chars.specs.Names.{is_name}
use Rattle.pv_tree.specs.Plain.{Tree, element, no_trees, tree, forest_of, is_element, depth_of, depth_of_all, nodes_in}
use Rattle.pv_tree.specs.Legal.{fits_kids, is_formed, has_names, IsLegalEnding, IsLegal, has_no_close_mark, MAX_DEPTH}
use Rattle.pv_tree.specs.Units.{HasUnits}
use Rattle.pv_edit.specs.Changes.{Change, in_place_of, list_after, ending_after, owner_after, first_tree, root_after}
use Rattle.pv_edit.specs.Effects.{change_of, parent_of, kid_place}
use Rattle.pv_edit.specs.FittingChanges.{CanChange}
use Rattle.pv_edit.specs.Inverses.{IsKept}
use Rattle.pv_edit.specs.Reasons.{is_top, is_one_element, kids_at, spells_close_mark, reason_of}
use Rattle.pv_edit.specs.declared.edits.Edit.{Edit}
use Rattle.pv_edit.specs.declared.edits.Edit.TheVariants.{Wrap, Insert, Unwrap, Rename, Split, Join, SetText, AddText, DelText}
use Rattle.pv_edit.proofs.Levels.{forest-trees}
use Rattle.pv_edit.proofs.NodePlaces.{at_node, node_at}
use Rattle.pv_edit.proofs.DocumentAsElement.{whole, Made, top-kids, can-change}
use Rattle.pv_edit.proofs.CutParts.{between-kid}
use Rattle.pv_edit.proofs.EachNode.{EachNode, each-node, elements-below, each-old, each-of-list, each-after}
use Rattle.pv_edit.proofs.NodeFacts.{Named, Formed, United, Lawful, names-each, each-names}
use Rattle.pv_edit.proofs.NodeFacts.{formed-each, each-formed, units-each, each-units, legal-each}
use Rattle.pv_edit.proofs.NodeFacts.{each-legal, names-stay, formed-stay, units-stay, legal-stay}
use Rattle.pv_edit.proofs.NodeFacts.{no-attributes, owner-formed, owner-legal}
use Rattle.pv_edit.proofs.ListsWithoutCloseMark.{Unbroken, unbroken-stay, close-each, each-close}
use Rattle.pv_edit.proofs.ListsWithoutCloseMark.{front-element}
use Rattle.pv_edit.proofs.Sizes.{nodes-after, depth-after}
use Rattle.pv_edit.proofs.PassedEdits.{element-at, wrap-passes, insert-passes, unwrap-passes, rename-passes}
use Rattle.pv_edit.proofs.MadeChanges.{wrap-made, insert-made, unwrap-made, rename-made, split-made, join-made, set-made, add-made, del-made}
use Rattle.pv_edit.proofs.FillingFacts.{Fresh, wrap-fresh, insert-fresh, unwrap-fresh, kids-depth}
use Rattle.pv_edit.proofs.FillingFacts.{rename-fresh, named-depth, split-fresh, join-fresh}
use Rattle.pv_edit.proofs.FillingFacts.{set-fresh, add-fresh, del-fresh}

document-named : is_name (100 ∷ []) ≡ true
unfolding is_utf8 chars encode
document-named = refl

-- the root is an element after the change
top-element : {M : Type 0} (root : Tree M) (ts : List (Tree M)) → is_one_element ts ≡ true → is_element (first_tree root ts) ≡ true
top-element root [] h = absurd cc
top-element root (t ∷ []) h = h
top-element root (t ∷ u ∷ ts) h = absurd cc

pub rooted-after : {M : Type 0} {m : M} (path : List ℕ) (c : Change M) (root : Tree M)
    (ts : List (Tree M)) → Made m path c root ts → (is_top path ≡ true →
    is_one_element (list_after c ts) ≡ true) → is_element (root_after path c root) ≡ true
rooted-after [] c root ts d h = top-element root (list_after c (root ∷ [])) (subst (λ l. is_one_element (list_after c l) ≡ true) (top-kids d.owner) (h refl))
rooted-after (zero ∷ path) c root ts d h =
    (elements-below (owner_after c) (node_at path root (element d.owner.name d.owner.attrs
    d.owner.ending d.owner.kids d.owner.mark) (at_node d.owner.node)) refl refl).1
rooted-after (suc i ∷ path) c root ts d h = let e = at_node d.owner.node in absurd cc

module _ {M : Type 0} (m : M) (path : List ℕ) (c : Change M) (root : Tree M) (ts : List (Tree M)) (d : Made m path c root ts) (f : Fresh c path ts) where
  names-after : is_element root ≡ true → has_names root ≡ true → has_names (root_after path c root) ≡ true
  names-after r h =
      let w : EachNode Named (whole m root) = (document-named, (names-each root h, tt)) in
      each-names (root_after path c root) (each-after Named names-stay path c root ts d w
      (each-node Named d.owner.node w).0 (f.names (each-old Named ts c.from c.to d.order
      (each-of-list Named d.owner w))))

  formed-after : is_formed root ≡ true → is_formed (root_after path c root) ≡ true
  formed-after h =
      let w : EachNode Formed (whole m root) = (refl, (formed-each root h, tt)) in
      each-formed (root_after path c root) (each-after Formed formed-stay path c root ts d w
      (subst (λ (b : Bool). fits_kids (ending_after b d.owner.ending (list_after c ts)) (forest_of (list_after c ts)) ≡ true) (sym f.keeps_end) (owner-formed d.owner.ending (list_after c ts)))
      (f.forms (each-old Formed ts c.from c.to d.order (each-of-list Formed d.owner w))))

  units-after : HasUnits root → HasUnits (root_after path c root)
  units-after h =
      let w : EachNode United (whole m root) = (tt, (units-each root h, tt)) in
      each-units (root_after path c root) (each-after United units-stay path c root ts d w tt (f.units (each-old United ts c.from c.to d.order (each-of-list United d.owner w))))

  legal-after : IsLegal root → IsLegal (root_after path c root)
  legal-after h =
      let w : EachNode Lawful (whole m root) = ((no-attributes, refl), (legal-each root h, tt)) in
      let o = (each-node Lawful d.owner.node w).0 in
      each-legal (root_after path c root) (each-after Lawful legal-stay path c root ts d w
      (o.0, subst (λ (b : Bool). IsLegalEnding (ending_after b d.owner.ending (list_after c ts))) (sym f.keeps_end) (owner-legal d.owner.ending (list_after c ts) o.1))
      (f.legal (each-old Lawful ts c.from c.to d.order (each-of-list Lawful d.owner w))))

  runs-after : is_element root ≡ true → has_no_close_mark root ≡ true → has_no_close_mark (root_after path c root) ≡ true
  runs-after r h =
      let top : spells_close_mark (tree root no_trees) ≡ false = rw (front-element root no_trees r) refl in
      let w : EachNode Unbroken (whole m root) = (top, (close-each root h, tt)) in
      let o : spells_close_mark d.owner.kids ≡ false = (each-node Unbroken d.owner.node w).0 in
      let s : spells_close_mark (forest_of ts) ≡ false = subst (λ l. spells_close_mark (forest_of l)
      ≡ false) d.owner.are (subst (λ k. spells_close_mark k ≡ false)
      (sym (forest-trees d.owner.kids)) o) in
      each-close (root_after path c root) (each-after Unbroken unbroken-stay path c root ts d w (f.list_runs s) (f.runs s (each-old Unbroken ts c.from c.to d.order (each-of-list Unbroken d.owner w))))

  pub kept-after : IsKept root → nodes_in root ≤ 33554432 → depth_of (root_after path c root) ≤ MAX_DEPTH → IsKept (root_after path c root)
  kept-after k n deep = record {
    rooted = rooted-after path c root ts d f.root;
    formed = formed-after k.formed;
    shallow = deep;
    small = omega (arith, nodes-after path c root ts d, f.nodes);
    named = names-after k.rooted k.named;
    units = units-after k.units;
    legal = ∥∥₁_map k.legal (λ l. legal-after l);
    no_close_mark = runs-after k.rooted k.no_close_mark;
  }

texts-flat : {M : Type 0} (path : List ℕ) (m : M) (c : Change M) (root : Tree M)
    (ts : List (Tree M)) → Made m path c root ts →
    depth_of_all (forest_of (in_place_of c.filling (between c.from c.to ts))) ≡ 0 →
    depth_of root ≤ MAX_DEPTH → depth_of (root_after path c root) ≤ MAX_DEPTH
texts-flat path m c root ts d z h = let k = depth-after path c root ts d (omega (arith, z)) in omega (arith, k)

-- after each edit that can be made
pub edit-kept : {M : Type 0} (m blank : M) (root : Tree M) (edit : Edit) → IsKept root →
    nodes_in root ≤ 33554432 → reason_of blank root edit ≡ None →
    IsKept (root_after (change_of blank root edit).list (change_of blank root edit) root)
edit-kept m blank root (Wrap path from to name) k n h =
    kept-after m path _ root _ (wrap-made m blank root path from to name h) (wrap-fresh blank root path from to name h) k n
    (ltb-false MAX_DEPTH _ (wrap-passes blank root path from to name h).shallow)
edit-kept m blank root (Insert path at name) k n h =
    kept-after m path _ root _ (insert-made m blank root path at name h) (insert-fresh blank root path at name h) k n
    (ltb-false MAX_DEPTH _ (insert-passes blank root path at name h).shallow)
edit-kept m blank root (Unwrap path) k n h =
    let d = unwrap-made m blank root path h in
    let e = element-at path root (unwrap-passes blank root path h).elem in
    let ts = kids_at (parent_of path) root in
    let deep = depth-after (parent_of path) (change_of blank root (Unwrap path)) root ts d
    (kids-depth (between (kid_place path) (kid_place path + 1) ts) e.name e.attrs e.ending
    e.kids e.mark (between-kid ts (kid_place path) _ e.kid)) in
    kept-after m (parent_of path) _ root _ d (unwrap-fresh blank root path h) k n (omega (arith, deep, k.shallow))
edit-kept m blank root (Rename path name) k n h =
    let d = rename-made m blank root path name h in
    let e = element-at path root (rename-passes blank root path name h).elem in
    let ts = kids_at (parent_of path) root in
    let deep = depth-after (parent_of path) (change_of blank root (Rename path name)) root ts d
    (named-depth name (between (kid_place path) (kid_place path + 1) ts) e.name e.attrs e.ending
    e.kids e.mark (between-kid ts (kid_place path) _ e.kid)) in
    kept-after m (parent_of path) _ root _ d (rename-fresh blank root path name h) k n (omega (arith, deep, k.shallow))
edit-kept m blank root (Split path at) k n h =
    let d = split-made m blank root path at k.rooted h in
    kept-after m (parent_of path) _ root _ d (split-fresh blank root path at k.rooted h) k n (texts-flat (parent_of path) m _ root _ d (omega arith) k.shallow)
edit-kept m blank root (Join path) k n h =
    let d = join-made m blank root path k.rooted h in
    kept-after m (parent_of path) _ root _ d (join-fresh blank root path k.rooted h) k n (texts-flat (parent_of path) m _ root _ d (omega arith) k.shallow)
edit-kept m blank root (SetText path text) k n h =
    let d = set-made m blank root path text k.rooted h in
    kept-after m (parent_of path) _ root _ d (set-fresh blank root path text k.rooted h) k n (texts-flat (parent_of path) m _ root _ d (omega arith) k.shallow)
edit-kept m blank root (AddText path at text) k n h =
    let d = add-made m blank root path at text h in
    kept-after m path _ root _ d (add-fresh blank root path at text h) k n (texts-flat path m _ root _ d (omega arith) k.shallow)
edit-kept m blank root (DelText path) k n h =
    let d = del-made m blank root path k.rooted h in
    kept-after m (parent_of path) _ root _ d (del-fresh blank root path k.rooted h) k n (texts-flat (parent_of path) m _ root _ d refl k.shallow)

pub edit-can : {M : Type 0} (m blank : M) (root : Tree M) (edit : Edit) → is_element root ≡ true →
    reason_of blank root edit ≡ None → CanChange (change_of blank root edit).list
    (change_of blank root edit) root
edit-can m blank root (Wrap path from to name) r h = can-change path _ root _ (wrap-made m blank root path from to name h)
edit-can m blank root (Insert path at name) r h = can-change path _ root _ (insert-made m blank root path at name h)
edit-can m blank root (Unwrap path) r h = can-change (parent_of path) _ root _ (unwrap-made m blank root path h)
edit-can m blank root (Rename path name) r h = can-change (parent_of path) _ root _ (rename-made m blank root path name h)
edit-can m blank root (Split path at) r h = can-change (parent_of path) _ root _ (split-made m blank root path at r h)
edit-can m blank root (Join path) r h = can-change (parent_of path) _ root _ (join-made m blank root path r h)
edit-can m blank root (SetText path text) r h = can-change (parent_of path) _ root _ (set-made m blank root path text r h)
edit-can m blank root (AddText path at text) r h = can-change path _ root _ (add-made m blank root path at text h)
edit-can m blank root (DelText path) r h = can-change (parent_of path) _ root _ (del-made m blank root path r h)
