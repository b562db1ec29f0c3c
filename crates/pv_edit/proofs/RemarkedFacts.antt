-- What a document keeps, whatever its marks are.
use Rattle.std.proofs.Common.{◌≡◌, ◌∙◌, ap, sym, refl, suc, ◌+◌, ◌≤◌, max, ◌&&◌, ◌||◌, List, [], ◌∷◌, ◌++◌, map, subst}
use Rattle.std.proofs.Math.Logic.{∥∥₁_map}
use Rattle.pv_chars.specs.Names.{is_name}
use Rattle.pv_chars.specs.Texts.{holds_close_mark}
use Rattle.pv_tree.specs.Plain.{Ending, short, tagged, Tree, element, text_node, cdata_node, misc_node, Forest, no_trees, tree, forest_of, map_marks}
use Rattle.pv_tree.specs.Plain.{map_marks_all, depth_of, depth_of_all, nodes_in, nodes_in_all}
use Rattle.pv_tree.specs.Legal.{fits_kids, is_formed, are_formed, has_names, have_names, IsLegal, AreLegal, front_units, is_open, has_no_close_mark}
use Rattle.pv_tree.specs.Legal.{have_no_close_mark, starts_no_close_mark, MAX_DEPTH, MAX_NODES}
use Rattle.pv_tree.specs.Units.{HasUnits, HaveUnits}
use Rattle.pv_edit.specs.Inverses.{IsKept}
use Rattle.pv_edit.specs.Reasons.{spells_close_mark}
use Rattle.pv_edit.proofs.RemarkedChanges.{element-as, forest-as}

fits-kids-as : {M N : Type 0} (f : M → N) (e : Ending) (kids : Forest M) → fits_kids e (map_marks_all f kids) ≡ fits_kids e kids
fits-kids-as f short no_trees = refl
fits-kids-as f short (tree t rest) = refl
fits-kids-as f (tagged gap) kids = refl

mutual
  formed-as : {M N : Type 0} (f : M → N) (t : Tree M) → is_formed (map_marks f t) ≡ is_formed t
  formed-as f (element x attrs e kids m) = ap (λ b. b && are_formed (map_marks_all f kids)) (fits-kids-as f e kids) ∙ ap (λ b. fits_kids e kids && b) (all-formed-as f kids)
  formed-as f (text_node units) = refl
  formed-as f (cdata_node bytes) = refl
  formed-as f (misc_node bytes) = refl

  all-formed-as : {M N : Type 0} (f : M → N) (kids : Forest M) → are_formed (map_marks_all f kids) ≡ are_formed kids
  all-formed-as f no_trees = refl
  all-formed-as f (tree t rest) = ap (λ b. b && are_formed (map_marks_all f rest)) (formed-as f t) ∙ ap (λ b. is_formed t && b) (all-formed-as f rest)

mutual
  pub depth-as : {M N : Type 0} (f : M → N) (t : Tree M) → depth_of (map_marks f t) ≡ depth_of t
  depth-as f (element x attrs e kids m) = ap suc (all-depth-as f kids)
  depth-as f (text_node units) = refl
  depth-as f (cdata_node bytes) = refl
  depth-as f (misc_node bytes) = refl

  all-depth-as : {M N : Type 0} (f : M → N) (kids : Forest M) → depth_of_all (map_marks_all f kids) ≡ depth_of_all kids
  all-depth-as f no_trees = refl
  all-depth-as f (tree t rest) = ap (λ n. max n (depth_of_all (map_marks_all f rest))) (depth-as f t) ∙ ap (max (depth_of t)) (all-depth-as f rest)

mutual
  pub nodes-as : {M N : Type 0} (f : M → N) (t : Tree M) → nodes_in (map_marks f t) ≡ nodes_in t
  nodes-as f (element x attrs e kids m) = ap suc (all-nodes-as f kids)
  nodes-as f (text_node units) = refl
  nodes-as f (cdata_node bytes) = refl
  nodes-as f (misc_node bytes) = refl

  all-nodes-as : {M N : Type 0} (f : M → N) (kids : Forest M) → nodes_in_all (map_marks_all f kids) ≡ nodes_in_all kids
  all-nodes-as f no_trees = refl
  all-nodes-as f (tree t rest) = ap (λ n. n + nodes_in_all (map_marks_all f rest)) (nodes-as f t) ∙ ap (λ n. nodes_in t + n) (all-nodes-as f rest)

mutual
  names-as : {M N : Type 0} (f : M → N) (t : Tree M) → has_names (map_marks f t) ≡ has_names t
  names-as f (element x attrs e kids m) = ap (λ b. is_name x && b) (all-names-as f kids)
  names-as f (text_node units) = refl
  names-as f (cdata_node bytes) = refl
  names-as f (misc_node bytes) = refl

  all-names-as : {M N : Type 0} (f : M → N) (kids : Forest M) → have_names (map_marks_all f kids) ≡ have_names kids
  all-names-as f no_trees = refl
  all-names-as f (tree t rest) = ap (λ b. b && have_names (map_marks_all f rest)) (names-as f t) ∙ ap (λ b. has_names t && b) (all-names-as f rest)

mutual
  units-from : {M N : Type 0} (f : M → N) (t : Tree M) → HasUnits (map_marks f t) → HasUnits t
  units-from f (element x attrs e kids m) h = all-units-from f kids h
  units-from f (text_node units) h = h
  units-from f (cdata_node bytes) h = tt
  units-from f (misc_node bytes) h = tt

  all-units-from : {M N : Type 0} (f : M → N) (kids : Forest M) → HaveUnits (map_marks_all f kids) → HaveUnits kids
  all-units-from f no_trees h = tt
  all-units-from f (tree t rest) h = (units-from f t h.0, all-units-from f rest h.1)

mutual
  units-to : {M N : Type 0} (f : M → N) (t : Tree M) → HasUnits t → HasUnits (map_marks f t)
  units-to f (element x attrs e kids m) h = all-units-to f kids h
  units-to f (text_node units) h = h
  units-to f (cdata_node bytes) h = tt
  units-to f (misc_node bytes) h = tt

  all-units-to : {M N : Type 0} (f : M → N) (kids : Forest M) → HaveUnits kids → HaveUnits (map_marks_all f kids)
  all-units-to f no_trees h = tt
  all-units-to f (tree t rest) h = (units-to f t h.0, all-units-to f rest h.1)

mutual
  legal-from : {M N : Type 0} (f : M → N) (t : Tree M) → IsLegal (map_marks f t) → IsLegal t
  legal-from f (element x attrs e kids m) h = (h.0, h.1, all-legal-from f kids h.2)
  legal-from f (text_node units) h = h
  legal-from f (cdata_node bytes) h = h
  legal-from f (misc_node bytes) h = h

  all-legal-from : {M N : Type 0} (f : M → N) (kids : Forest M) → AreLegal (map_marks_all f kids) → AreLegal kids
  all-legal-from f no_trees h = tt
  all-legal-from f (tree t rest) h = (legal-from f t h.0, all-legal-from f rest h.1)

mutual
  legal-to : {M N : Type 0} (f : M → N) (t : Tree M) → IsLegal t → IsLegal (map_marks f t)
  legal-to f (element x attrs e kids m) h = (h.0, h.1, all-legal-to f kids h.2)
  legal-to f (text_node units) h = h
  legal-to f (cdata_node bytes) h = h
  legal-to f (misc_node bytes) h = h

  all-legal-to : {M N : Type 0} (f : M → N) (kids : Forest M) → AreLegal kids → AreLegal (map_marks_all f kids)
  all-legal-to f no_trees h = tt
  all-legal-to f (tree t rest) h = (legal-to f t h.0, all-legal-to f rest h.1)

front-as : {M N : Type 0} (f : M → N) (kids : Forest M) → front_units (map_marks_all f kids) ≡ front_units kids
front-as f no_trees = refl
front-as f (tree (element x attrs e kids m) rest) = refl
front-as f (tree (text_node units) rest) = ap (λ l. units ++ l) (front-as f rest)
front-as f (tree (cdata_node bytes) rest) = refl
front-as f (tree (misc_node bytes) rest) = refl

starts-as : {M N : Type 0} (f : M → N) (t : Tree M) (rest : Forest M) → starts_no_close_mark (map_marks f t) (map_marks_all f rest) ≡ starts_no_close_mark t rest
starts-as f (element x attrs e kids m) rest = refl
starts-as f (text_node units) rest = ap (is_open units) (front-as f rest)
starts-as f (cdata_node bytes) rest = refl
starts-as f (misc_node bytes) rest = refl

mutual
  close-as : {M N : Type 0} (f : M → N) (t : Tree M) → has_no_close_mark (map_marks f t) ≡ has_no_close_mark t
  close-as f (element x attrs e kids m) = all-close-as f kids
  close-as f (text_node units) = refl
  close-as f (cdata_node bytes) = refl
  close-as f (misc_node bytes) = refl

  all-close-as : {M N : Type 0} (f : M → N) (kids : Forest M) → have_no_close_mark (map_marks_all f kids) ≡ have_no_close_mark kids
  all-close-as f no_trees = refl
  all-close-as f (tree t rest) =
      ap (λ b. b && starts_no_close_mark (map_marks f t) (map_marks_all f rest) && have_no_close_mark (map_marks_all f rest)) (close-as f t)
      ∙ ap (λ b. has_no_close_mark t && b && have_no_close_mark (map_marks_all f rest)) (starts-as f t rest) ∙ ap (λ b. has_no_close_mark t && starts_no_close_mark t rest && b) (all-close-as f rest)

list-front-as : {M N : Type 0} (f : M → N) (ts : List (Tree M)) → front_units (forest_of (map (map_marks f) ts)) ≡ front_units (forest_of ts)
list-front-as f ts = ap front_units (forest-as f ts) ∙ front-as f (forest_of ts)

pub spells-as : {M N : Type 0} (f : M → N) (ts : List (Tree M)) → spells_close_mark (forest_of (map (map_marks f) ts)) ≡ spells_close_mark (forest_of ts)
spells-as f [] = refl
spells-as f (t ∷ ts) =
    ap (λ l. holds_close_mark l || spells_close_mark (forest_of (map (map_marks f) ts)))
    (list-front-as f (t ∷ ts)) ∙ ap (λ b. holds_close_mark (front_units (forest_of (t ∷ ts))) ||
    b) (spells-as f ts)

pub kept-from : {M N : Type 0} (f : M → N) (t : Tree M) → IsKept (map_marks f t) → IsKept t
kept-from f t k = record {
  rooted = sym (element-as f t) ∙ k.rooted;
  formed = sym (formed-as f t) ∙ k.formed;
  shallow = subst (λ n. n ≤ MAX_DEPTH) (depth-as f t) k.shallow;
  small = subst (λ n. n ≤ MAX_NODES) (nodes-as f t) k.small;
  named = sym (names-as f t) ∙ k.named;
  units = units-from f t k.units;
  legal = ∥∥₁_map k.legal (λ l. legal-from f t l);
  no_close_mark = sym (close-as f t) ∙ k.no_close_mark;
}

pub kept-to : {M N : Type 0} (f : M → N) (t : Tree M) → IsKept t → IsKept (map_marks f t)
kept-to f t k = record {
  rooted = element-as f t ∙ k.rooted;
  formed = formed-as f t ∙ k.formed;
  shallow = subst (λ n. n ≤ MAX_DEPTH) (sym (depth-as f t)) k.shallow;
  small = subst (λ n. n ≤ MAX_NODES) (sym (nodes-as f t)) k.small;
  named = names-as f t ∙ k.named;
  units = units-to f t k.units;
  legal = ∥∥₁_map k.legal (λ l. legal-to f t l);
  no_close_mark = close-as f t ∙ k.no_close_mark;
}
