-- The lists of a document, and what stands at their paths.
use Rattle.std.proofs.Common.{◌≡◌, ◌↔◌, ◌⊎◌, inl, inr, ℕ, ◌+◌, zero, suc, List, [], ◌∷◌, ◌++◌, Option, Some, None, slice_get, refl, sym, ap, ◌∙◌, subst, append_assoc, arith}
use Rattle.std.proofs.lemmas.List.{append-nil}
use Rattle.std.proofs.lemmas.List.Elements.{All-append, All-cons, All-contains, All-nil, All-weaker, Contains-append_left, Contains-append_right}
use Rattle.std.specs.List.{All, Contains}
use Rattle.std.specs.Option.{option_and_then, option_map}
use Rattle.pv_tree.specs.Plain.{Tree, element, text_node, cdata_node, misc_node, Forest, no_trees, tree, forest_of, trees_of, PlainDoc, Ending}
use Rattle.pv_tree.specs.Lists.{Listed, Owner, an_element, the_document, lists_at, lists_from, lists_of}
use Rattle.pv_tree.specs.Places.{at_node, IsListAt, list_at, list_of, node_below, owner_of, spot_at}
use Rattle.pv_tree.proofs.Levels.{forest-trees}
use Rattle.pv_tree.proofs.JoinedLists.{contains_cases, contains_first, contains_later}

-- ---- a list stands at its path
-- it is that of a node below this one
record IsListBelow {M : Type 0} (path : List ℕ) (t : Tree M) (list : Listed M) : Type 0 where
  below : List ℕ
  node : Tree M
  is_path : list.path ≡ path ++ below
  is_node : node_below below t ≡ Some node
  is_owner : owner_of (at_node node) ≡ Some list.owner
  are_kids : list_of node ≡ Some (trees_of list.kids)

-- it is that of a node below one of these kids, which are counted from this number on
record IsListAmong {M : Type 0} (path : List ℕ) (i : ℕ) (kids : Forest M) (list : Listed M) : Type 0 where
  index : ℕ
  place : ℕ
  kid : Tree M
  is_place : place ≡ i + index
  is_kid : slice_get (trees_of kids) index ≡ Some kid
  is_below : IsListBelow (path ++ place ∷ []) kid list

among_first : {M : Type 0} (path : List ℕ) (i : ℕ) (t : Tree M) (rest : Forest M) (list : Listed M) → IsListBelow (path ++ i ∷ []) t list → IsListAmong path i (tree t rest) list
among_first path i t rest list b = record { index = 0; place = i; kid = t; is_place = omega arith; is_kid = refl; is_below = b }

among_later : {M : Type 0} (path : List ℕ) (i : ℕ) (t : Tree M) (rest : Forest M) (list : Listed M) → IsListAmong path (suc i) rest list → IsListAmong path i (tree t rest) list
among_later path i t rest list a = record { index = suc a.index; place = a.place; kid = a.kid; is_place = omega (arith, a.is_place); is_kid = a.is_kid; is_below = a.is_below }

below_owner : {M : Type 0} (path x attrs : List ℕ) (e : Ending) (kids : Forest M) (mark : M) (list : Listed M) → IsListAmong path 0 kids list → IsListBelow path (element x attrs e kids mark) list
below_owner path x attrs e kids mark list a =
    let same : a.place ≡ a.index = omega (arith, a.is_place) in
    record {
      below = a.place ∷ a.is_below.below;
      node = a.is_below.node;
      is_path = a.is_below.is_path ∙ append_assoc path (a.place ∷ []) a.is_below.below;
      is_node = rw (same, a.is_kid) a.is_below.is_node;
      is_owner = a.is_below.is_owner;
      are_kids = a.is_below.are_kids;
    }

mutual
  all_below : {M : Type 0} (path : List ℕ) (t : Tree M) → All (IsListBelow path t) (lists_at path t)
  all_below path (element x attrs e kids mark) =
      All-cons (IsListBelow path (element x attrs e kids mark)) (record { path = path; owner = an_element x; kids = kids }) (lists_from path 0 kids)
      (record { below = []; node = element x attrs e kids mark; is_path = sym (append-nil path); is_node = refl; is_owner = refl; are_kids = refl })
      (All-weaker (IsListAmong path 0 kids) (IsListBelow path (element x attrs e kids mark)) (below_owner path x attrs e kids mark) (lists_from path 0 kids) (all_among path 0 kids))
  all_below path (text_node units) = All-nil (IsListBelow path (text_node units))
  all_below path (cdata_node bytes) = All-nil (IsListBelow path (cdata_node bytes))
  all_below path (misc_node bytes) = All-nil (IsListBelow path (misc_node bytes))

  all_among : {M : Type 0} (path : List ℕ) (i : ℕ) (kids : Forest M) → All (IsListAmong path i kids) (lists_from path i kids)
  all_among path i no_trees = All-nil (IsListAmong path i no_trees)
  all_among path i (tree t rest) =
      All-append (IsListAmong path i (tree t rest)) (lists_at (path ++ i ∷ []) t) (lists_from path (suc i) rest)
      (All-weaker (IsListBelow (path ++ i ∷ []) t) (IsListAmong path i (tree t rest)) (among_first path i t rest) (lists_at (path ++ i ∷ []) t) (all_below (path ++ i ∷ []) t))
      (All-weaker (IsListAmong path (suc i) rest) (IsListAmong path i (tree t rest)) (among_later path i t rest) (lists_from path (suc i) rest) (all_among path (suc i) rest))

at_root : {M : Type 0} (root : Tree M) (list : Listed M) → IsListBelow (0 ∷ []) root list → IsListAt root list
at_root root list b = record {
  has_owner = rw (b.is_path, b.is_node) b.is_owner;
  has_kids = rw (b.is_path, b.is_node) b.are_kids;
}

at_document_node : {M : Type 0} (root : Tree M) (list : Listed M) → record { path = []; owner = the_document; kids = tree root no_trees } ≡ list → IsListAt root list
at_document_node root list e = subst (IsListAt root) e (record { has_owner = refl; has_kids = refl })

stands : {M : Type 0} (doc : PlainDoc M) (list : Listed M) →
    (record { path = []; owner = the_document; kids = tree doc.root no_trees } ≡ list)
    ⊎ Contains (lists_at (0 ∷ []) doc.root) list → IsListAt doc.root list
stands doc list (inl e) = at_document_node doc.root list e
stands doc list (inr c) = at_root doc.root list (All-contains (IsListBelow (0 ∷ []) doc.root) (lists_at (0 ∷ []) doc.root) list (all_below (0 ∷ []) doc.root) c)

-- ---- what stands at a path is listed
found_among : {M : Type 0} (path : List ℕ) (i j n : ℕ) (kids : Forest M) (kid : Tree M) (list : Listed M) → slice_get (trees_of kids) j ≡ Some kid → n ≡ i + j →
    Contains (lists_at (path ++ n ∷ []) kid) list → Contains (lists_from path i kids) list
found_among path i j n no_trees kid list e s c = cc
found_among path i zero n (tree t rest) kid list e s c =
    let same : t ≡ kid = cc in
    let first : n ≡ i = omega arith in
    Contains-append_left (lists_at (path ++ i ∷ []) t) (lists_from path (suc i) rest) list (rw (same, ← first) c)
found_among path i (suc j) n (tree t rest) kid list e s c =
    Contains-append_right (lists_at (path ++ i ∷ []) t) (lists_from path (suc i) rest) list (found_among path (suc i) j n rest kid list e (omega arith) c)

found_in : {M : Type 0} (path below : List ℕ) (node : Tree M) (list : Listed M) (i : ℕ) (siblings : Forest M) (o : Option (Tree M)) → slice_get (trees_of siblings) i ≡ o →
    option_and_then (node_below below) o ≡ Some node → ((kid : Tree M) → node_below below kid ≡ Some node → Contains (lists_at (path ++ i ∷ []) kid) list) → Contains (lists_from path 0 siblings) list
found_in path below node list i siblings None s h in_kid = cc
found_in path below node list i siblings (Some kid) s h in_kid = found_among path 0 i i siblings kid list s (omega arith) (in_kid kid h)

found_below : {M : Type 0} (path below x attrs : List ℕ) (e : Ending) (kids : Forest M) (mark : M) (t : Tree M) → node_below below t ≡ Some (element x attrs e kids mark) →
    Contains (lists_at path t) (record { path = path ++ below; owner = an_element x; kids = kids })
found_below path [] x attrs e kids mark t h =
    let same : t ≡ element x attrs e kids mark = cc in
    rw (same, append-nil path) (contains_first (record { path = path; owner = an_element x; kids = kids }) (lists_from path 0 kids))
found_below path (i ∷ below) x attrs e kids mark (element y more f siblings m) h =
    let list : Listed _ = record { path = path ++ i ∷ below; owner = an_element x; kids = kids } in
    contains_later (record { path = path; owner = an_element y; kids = siblings }) (lists_from path 0 siblings) list
    (found_in path below (element x attrs e kids mark) list i siblings (slice_get (trees_of siblings) i) refl h
    (λ kid k. rw (← append_assoc path (i ∷ []) below) (found_below (path ++ i ∷ []) below x attrs e kids mark kid k)))
found_below path (i ∷ below) x attrs e kids mark (text_node units) h = cc
found_below path (i ∷ below) x attrs e kids mark (cdata_node bytes) h = cc
found_below path (i ∷ below) x attrs e kids mark (misc_node bytes) h = cc

same_kids : {M : Type 0} (kids others : Forest M) → trees_of kids ≡ trees_of others → kids ≡ others
same_kids kids others e = sym (forest-trees kids) ∙ ap forest_of e ∙ forest-trees others

found_node : {M : Type 0} (root : Tree M) (below : List ℕ) (owner : Owner) (kids : Forest M) (o : Option (Tree M)) → node_below below root ≡ o →
    option_and_then owner_of (option_map at_node o) ≡ Some owner → option_and_then list_of o ≡ Some (trees_of kids) →
    Contains (lists_at (0 ∷ []) root) (record { path = 0 ∷ below; owner = owner; kids = kids })
found_node root below owner kids None n w k = cc
found_node root below owner kids (Some (element x attrs e inner mark)) n w k =
    let named : an_element x ≡ owner = cc in
    let trees : trees_of inner ≡ trees_of kids = cc in
    let same : inner ≡ kids = same_kids inner kids trees in
    rw (← named, ← same) (found_below (0 ∷ []) below x attrs e inner mark root n)
found_node root below owner kids (Some (text_node units)) n w k = cc
found_node root below owner kids (Some (cdata_node bytes)) n w k = cc
found_node root below owner kids (Some (misc_node bytes)) n w k = cc

found_at : {M : Type 0} (doc : PlainDoc M) (path : List ℕ) (owner : Owner) (kids : Forest M) → option_and_then owner_of (spot_at path doc.root) ≡ Some owner →
    list_at path doc.root ≡ Some (trees_of kids) → Contains (lists_of doc) (record { path = path; owner = owner; kids = kids })
found_at doc [] owner kids w k =
    let named : the_document ≡ owner = cc in
    let trees : trees_of (tree doc.root no_trees) ≡ trees_of kids = cc in
    let same : tree doc.root no_trees ≡ kids = same_kids (tree doc.root no_trees) kids trees in
    rw (← named, ← same) (contains_first (record { path = []; owner = the_document; kids = tree doc.root no_trees }) (lists_at (0 ∷ []) doc.root))
found_at doc (zero ∷ below) owner kids w k =
    contains_later (record { path = []; owner = the_document; kids = tree doc.root no_trees }) (lists_at (0 ∷ []) doc.root) (record { path = 0 ∷ below; owner = owner; kids = kids })
    (found_node doc.root below owner kids (node_below below doc.root) refl w k)
found_at doc (suc i ∷ below) owner kids w k = cc

pub lists_stand : {M : Type 0} (doc : PlainDoc M) (list : Listed M) → Contains (lists_of doc) list ↔ IsListAt doc.root list
lists_stand doc list = (
  λ c. stands doc list (contains_cases (record { path = []; owner = the_document; kids = tree doc.root no_trees }) (lists_at (0 ∷ []) doc.root) list c),
  λ at. found_at doc list.path list.owner list.kids at.has_owner at.has_kids,
)
