-- The lists of a document by their paths.
use Rattle.std.proofs.Common.{List, None, Option, Some, [], ap, arith, refl, slice_get, subst, suc, sym, zero, ℕ, ◌∙◌, ◌∷◌, ◌≡◌, ◌≤◌}
use Rattle.std.specs.List.{Contains}
use Rattle.std.specs.Option.{option_and_then, option_map}
use Rattle.pv_dtd.specs.Plain.{PlainDtd}
use Rattle.pv_rules.specs.Sites.{PlainSite}
use Rattle.pv_tree.specs.Laws.{ListsStandAtPaths}
use Rattle.pv_tree.specs.Lists.{Listed, Owner, an_element, lists_of, the_document}
use Rattle.pv_tree.specs.Places.{IsListAt, Spot, at_node, list_at, list_of, node_below, owner_of, spot_at}
use Rattle.pv_tree.specs.Plain.{Forest, PlainDoc, Tree, cdata_node, element, forest_of, misc_node, no_trees, nodes_in, nodes_in_all, text_node, tree, trees_of}
use Rattle.pv_tree.proofs.Levels.{forest-trees, trees-forest}
use Rattle.pv_missing.specs.ListWeights.{site_of}
use Rattle.pv_table_check.specs.ClosedTables.{IsListOf}

owner_found : (f : Owner → Option PlainSite) (s : PlainSite) (o : Option Owner) → Some s ≡ option_and_then f o → (w : Owner) × (o ≡ Some w) × (f w ≡ Some s)
owner_found f s None e = absurd cc
owner_found f s (Some w) e = (w, refl, sym e)

module _ {M : Type 0} where
  same_kids : (a b : Forest M) → trees_of a ≡ trees_of b → a ≡ b
  same_kids a b e = sym (forest-trees a) ∙ ap forest_of e ∙ forest-trees b

  abbrev listed : List ℕ → Owner → Forest M → Listed M
  listed path owner kids = record { path = path; owner = owner; kids = kids }

  listed_same : (p q : List ℕ) (v w : Owner) (a b : Forest M) → p ≡ q → v ≡ w → a ≡ b → listed p v a ≡ listed q w b
  listed_same p q v w a b e f h = cc

  -- lists at one path are one
  pub same_list : (root : Tree M) (a b : Listed M) → IsListAt root a → IsListAt root b → a.path ≡ b.path → a ≡ b
  same_list root a b x y e = listed_same a.path b.path a.owner b.owner a.kids b.kids e (cc (owners, y.has_owner)) (same_kids a.kids b.kids (cc (kids, y.has_kids)))
    where
      owners : option_and_then owner_of (spot_at b.path root) ≡ Some a.owner
      owners = subst (λ p. option_and_then owner_of (spot_at p root) ≡ Some a.owner) e x.has_owner

      kids : list_at b.path root ≡ Some (trees_of a.kids)
      kids = subst (λ p. list_at p root ≡ Some (trees_of a.kids)) e x.has_kids

  node_owner : (ts : List (Tree M)) (o : Option (Tree M)) → Some ts ≡ option_and_then list_of o → (w : Owner) × (option_and_then owner_of (option_map at_node o) ≡ Some w)
  node_owner ts None e = absurd cc
  node_owner ts (Some (element x a f k m)) e = (an_element x, refl)
  node_owner ts (Some (text_node us)) e = absurd cc
  node_owner ts (Some (cdata_node b)) e = absurd cc
  node_owner ts (Some (misc_node b)) e = absurd cc

  owner_at : (root : Tree M) (path : List ℕ) (ts : List (Tree M)) → Some ts ≡ list_at path root → (w : Owner) × (option_and_then owner_of (spot_at path root) ≡ Some w)
  owner_at root [] ts e = (the_document, refl)
  owner_at root (zero ∷ below) ts e = node_owner ts (node_below below root) e
  owner_at root (suc i ∷ below) ts e = absurd cc

  none_owned : (o : Option (Spot M)) (w : Owner) → None ≡ o → option_and_then owner_of o ≡ Some w → ⊥
  none_owned None w e f = absurd cc
  none_owned (Some spot) w e f = absurd cc

  module _ (law : ListsStandAtPaths M) (g : PlainDtd) (root : List ℕ) (doc : PlainDoc M) (path : List ℕ) where
    pub list_found : (spot : Spot M) (s : PlainSite) (ts : List (Tree M)) → Some spot ≡ spot_at path doc.root → Some s ≡ option_and_then (site_of g root) (owner_of spot) →
        Some ts ≡ list_at path doc.root → IsListOf g root (lists_of doc) path s (forest_of ts)
    list_found spot s ts e f h =
        let o = owner_found (site_of g root) s (owner_of spot) f in
        let list = listed path o.0 (forest_of ts) in
        record { list = list; is_listed = (law doc list).1 (at o.0 o.1); is_path = refl; is_site = o.2; are_kids = refl }
      where
        at : (owner : Owner) → owner_of spot ≡ Some owner → IsListAt doc.root (listed path owner (forest_of ts))
        at owner is = record { has_owner = rw (sym e) is; has_kids = sym h ∙ ap Some (sym (trees-forest ts)) }

    stands : (list : Listed M) → Contains (lists_of doc) list → path ≡ list.path →
        (option_and_then owner_of (spot_at path doc.root) ≡ Some list.owner)
        × (list_at path doc.root ≡ Some (trees_of list.kids))
    stands list m e =
        let at = (law doc list).0 m in (
          subst (λ p. option_and_then owner_of (spot_at p doc.root) ≡ Some list.owner) (sym e) at.has_owner,
          subst (λ p. list_at p doc.root ≡ Some (trees_of list.kids)) (sym e) at.has_kids,
        )

    pub no_spot : None ≡ spot_at path doc.root → (list : Listed M) → Contains (lists_of doc) list → path ≡ list.path → ⊥
    no_spot e list m f = none_owned (spot_at path doc.root) list.owner e (stands list m f).0

    pub no_kids : None ≡ list_at path doc.root → (list : Listed M) → Contains (lists_of doc) list → path ≡ list.path → ⊥
    no_kids e list m f = let s = (stands list m f).1 in absurd cc

    pub no_site : (spot : Spot M) → Some spot ≡ spot_at path doc.root → None ≡ option_and_then (site_of g root) (owner_of spot) →
        (list : Listed M) (s : PlainSite) → Contains (lists_of doc) list → path ≡ list.path → site_of g root list.owner ≡ Some s → ⊥
    no_site spot e f list s m h is =
        let t : owner_of spot ≡ Some list.owner = rw (sym e) at (stands list m h).0 in
        let u : None ≡ site_of g root list.owner = rw t at f in absurd cc

    -- the kids of a list at the path are these
    pub kids_at : (ts : List (Tree M)) → Some ts ≡ list_at path doc.root → (list : Listed M) → Contains (lists_of doc) list → path ≡ list.path → list.kids ≡ forest_of ts
    kids_at ts e list m f = same_kids list.kids (forest_of ts) (let s = (stands list m f).1 in let t = trees-forest ts in let u : trees_of list.kids ≡ ts = cc in u ∙ sym t)

    -- there is a list where there are kids
    pub some_list : (ts : List (Tree M)) → Some ts ≡ list_at path doc.root → (list : Listed M) × Contains (lists_of doc) list × (path ≡ list.path) × (list.kids ≡ forest_of ts)
    some_list ts e =
        let w = owner_at doc.root path ts e in
        (listed path w.0 (forest_of ts), (law doc (listed path w.0 (forest_of ts))).1 (record { has_owner = w.1; has_kids = sym e ∙ ap Some (sym (trees-forest ts)) }), refl, refl)

-- ---- how many nodes
module _ {M : Type 0} where
  some_node : (t : Tree M) → 1 ≤ nodes_in t
  some_node (element x a e k m) = omega arith
  some_node (text_node us) = omega arith
  some_node (cdata_node b) = omega arith
  some_node (misc_node b) = omega arith

  kid_few : (kids : Forest M) (i : ℕ) (k : Tree M) → slice_get (trees_of kids) i ≡ Some k → nodes_in k ≤ nodes_in_all kids
  kid_few no_trees i k e = absurd cc
  kid_few (tree t rest) zero k e = let same : t ≡ k = cc in let n = ap nodes_in same in omega arith
  kid_few (tree t rest) (suc i) k e = let h = kid_few rest i k e in omega arith

  below_few : (i : ℕ) (kids : Forest M) (u : Tree M) (path : List ℕ) (o : Option (Tree M)) → slice_get (trees_of kids) i ≡ o → option_and_then (node_below path) o ≡ Some u →
      ((k : Tree M) → node_below path k ≡ Some u → nodes_in u ≤ nodes_in k) → nodes_in u ≤ suc (nodes_in_all kids)
  below_few i kids u path None s e few = absurd cc
  below_few i kids u path (Some k) s e few = let h = few k e in let l = kid_few kids i k s in omega arith

  node_few : (path : List ℕ) (t u : Tree M) → node_below path t ≡ Some u → nodes_in u ≤ nodes_in t
  node_few [] t u e = let same : t ≡ u = cc in let n = ap nodes_in same in omega arith
  node_few (i ∷ path) (element x a f k m) u e = below_few i k u path (slice_get (trees_of k) i) refl e (λ kid h. node_few path kid u h)
  node_few (i ∷ path) (text_node us) u e = absurd cc
  node_few (i ∷ path) (cdata_node b) u e = absurd cc
  node_few (i ∷ path) (misc_node b) u e = absurd cc

  own_few : (u : Tree M) (ts : List (Tree M)) → list_of u ≡ Some ts → nodes_in_all (forest_of ts) ≤ nodes_in u
  own_few (element x a f k m) ts e =
      let same : trees_of k ≡ ts = cc in
      let n : nodes_in_all (forest_of ts) ≡ nodes_in_all k = ap nodes_in_all (ap forest_of (sym same) ∙ forest-trees k) in omega arith
  own_few (text_node us) ts e = absurd cc
  own_few (cdata_node b) ts e = absurd cc
  own_few (misc_node b) ts e = absurd cc

  at_few : (root : Tree M) (path : List ℕ) (ts : List (Tree M)) (o : Option (Tree M)) → node_below path root ≡ o → Some ts ≡ option_and_then list_of o → nodes_in_all (forest_of ts) ≤ nodes_in root
  at_few root path ts None s e = absurd cc
  at_few root path ts (Some u) s e = let h = node_few path root u s in let l = own_few u ts (sym e) in omega arith

  pub list_few : (root : Tree M) (path : List ℕ) (ts : List (Tree M)) → Some ts ≡ list_at path root → nodes_in_all (forest_of ts) ≤ nodes_in root
  list_few root [] ts e = let same : ts ≡ root ∷ [] = cc in rw same (omega arith)
  list_few root (zero ∷ path) ts e = at_few root path ts (node_below path root) refl e
  list_few root (suc i ∷ path) ts e = absurd cc
