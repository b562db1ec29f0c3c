-- The list at a path, by what stands there.
use Rattle.std.specs.Prelude.{option_and_then, option_map}
use Rattle.std.specs.List.{Contains}
use Rattle.std.proofs.Common.{List, None, Option, Some, [], ap, refl, subst, suc, zero, ℕ, ◌∙◌, ◌∷◌, ◌≡◌}
use Rattle.pv_tree.specs.Laws.{ListsStandAtPaths}
use Rattle.pv_tree.specs.Lists.{Listed, Owner, an_element, lists_of, the_document}
use Rattle.pv_tree.specs.Places.{at_document, at_node, list_at, list_of, node_below, owner_of, spot_at}
use Rattle.pv_tree.specs.Plain.{Forest, PlainDoc, Tree, no_trees, tree, trees_of}

module _ {M : Type 0} (doc : PlainDoc M) (law : ListsStandAtPaths M) (path : List ℕ) where
  -- nothing stands there that has a list
  pub no_list : option_and_then owner_of (spot_at path doc.root) ≡ None → (list : Listed M) → Contains (lists_of doc) list → list.path ≡ path → ⊥
  no_list e list con same =
      let at = ((law doc list).0 con).has_owner in
      let P : List ℕ → Type 0 = λ p. option_and_then owner_of (spot_at p doc.root) ≡ Some list.owner in
      let a = subst P same at in cc

  one_list : (owner : Owner) (kids : Forest M) → option_and_then owner_of (spot_at path doc.root)
      ≡ Some owner → list_at path doc.root ≡ Some (trees_of kids) →
      Contains (lists_of doc) (record { path = path; owner = owner; kids = kids })
  one_list owner kids o k = (law doc (record { path = path; owner = owner; kids = kids })).1 (record { has_owner = o; has_kids = k })

  path_is_empty : (p : List ℕ) (root : Tree M) → spot_at p root ≡ Some at_document → p ≡ []
  path_is_empty [] root e = refl
  path_is_empty (zero ∷ p) root e = absurd (no_document (node_below p root) e)
    where
      no_document : (o : Option (Tree M)) → option_map at_node o ≡ Some at_document → ⊥
      no_document None e = cc
      no_document (Some t) e = cc
  path_is_empty (suc i ∷ p) root e = absurd cc

  pub list_of_document : spot_at path doc.root ≡ Some at_document → Contains (lists_of doc) (record { path = path; owner = the_document; kids = tree doc.root no_trees })
  list_of_document e =
      let z = path_is_empty path doc.root e in
      one_list the_document (tree doc.root no_trees) (rw e refl) (rw z refl)

  kids_below : (p : List ℕ) (root : Tree M) (t : Tree M) → spot_at p root ≡ Some (at_node t) → list_at p root ≡ list_of t
  kids_below [] root t e = absurd cc
  kids_below (zero ∷ p) root t e = some_below (node_below p root) e
    where
      some_below : (o : Option (Tree M)) → option_map at_node o ≡ Some (at_node t) → option_and_then list_of o ≡ list_of t
      some_below None e = absurd cc
      some_below (Some u) e = let z : u ≡ t = cc in ap list_of z
  kids_below (suc i ∷ p) root t e = absurd cc

  pub list_of_element : (x : List ℕ) (t : Tree M) (kids : Forest M) → spot_at path doc.root ≡ Some (at_node t) → owner_of (at_node t) ≡ Some (an_element x) → list_of t ≡ Some (trees_of kids) →
      Contains (lists_of doc) (record { path = path; owner = an_element x; kids = kids })
  list_of_element x t kids e o k = one_list (an_element x) kids (rw e o) (kids_below path doc.root t e ∙ k)
