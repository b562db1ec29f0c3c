-- The lists of a document are those that stand at its paths.
use Rattle.std.proofs.Common.{List, Option, None, Some, [], ap, arith, append_assoc, append-nil}
use Rattle.std.proofs.Common.{refl, suc, sym, zero, ℕ, ◌+◌, ◌++◌, ◌∙◌, ◌∷◌, ◌≡◌, slice_get}
use Rattle.std.specs.List.{AllByRecursion}
use Rattle.std.specs.Option.{option_and_then, option_map}
use Rattle.pv_cache.specs.VerdictsAfterChange.{owner_at}
use Rattle.pv_edit.specs.Inverses.{name_on}
use Rattle.pv_edit.proofs.Levels.{forest-trees}
use Rattle.pv_tree.specs.Lists.{Listed, an_element, lists_at, lists_from, lists_of}
use Rattle.pv_tree.specs.Places.{at_node, kids_of, list_at, list_of, node_below}
use Rattle.pv_tree.specs.Plain.{Forest, PlainDoc, Tree, cdata_node, element, forest_of, misc_node}
use Rattle.pv_tree.specs.Plain.{no_trees, text_node, tree, trees_of}
use Rattle.pv_tree.proofs.JoinedLists.{all_joined, all_left, all_right}

-- the name of the node below another
abbrev name_below : {M : Type 0} → Option (Tree M) → List ℕ
name_below o = name_on (option_map at_node o)

module _ {M : Type 0} where
  -- what holds of the lists below a path holds of each
  abbrev IsHad : (P : Listed M → Type 0) → List ℕ → List (Tree M) → List ℕ → Type 0
  IsHad P path kids x = P (record { path = path; owner = an_element x; kids = forest_of kids })

  abbrev HadBelow : (P : Listed M → Type 0) → List ℕ → Type 0
  HadBelow P below =
      (at path : List ℕ) (t : Tree M) (kids : List (Tree M)) → path ≡ at ++ below →
      option_and_then list_of (node_below below t) ≡ Some kids →
      AllByRecursion P (lists_at at t) → IsHad P path kids (name_below (node_below below t))

  had_here : (P : Listed M → Type 0) → HadBelow P []
  had_here P at path (element x a e ks m) kids p l h =
      let k : trees_of ks ≡ kids = cc in
      let f : forest_of kids ≡ ks = sym (ap forest_of k) ∙ forest-trees ks in
      let q : path ≡ at = p ∙ append-nil at in
      rw (q, f) h.0
  had_here P at path (text_node us) kids p l h = absurd cc
  had_here P at path (cdata_node b) kids p l h = absurd cc
  had_here P at path (misc_node b) kids p l h = absurd cc

  had_kid : (P : Listed M → Type 0) (below : List ℕ) → HadBelow P below →
      (at path : List ℕ) (k i : ℕ) (ks : Forest M) (kids : List (Tree M)) →
      path ≡ at ++ (k + i) ∷ below →
      option_and_then list_of (option_and_then (node_below below) (slice_get (trees_of ks) i))
      ≡ Some kids → AllByRecursion P (lists_from at k ks) →
      IsHad P path kids
      (name_below (option_and_then (node_below below) (slice_get (trees_of ks) i)))
  had_kid P below had at path k i no_trees kids p l h = absurd cc
  had_kid P below had at path k zero (tree t rest) kids p l h =
      let n : k + 0 ≡ k = omega arith in
      had (at ++ k ∷ []) path t kids (p ∙ ap (λ n. at ++ n ∷ below) n
      ∙ sym (append_assoc at (k ∷ []) below)) l
      (all_left P (lists_at (at ++ k ∷ []) t) (lists_from at (suc k) rest) h)
  had_kid P below had at path k (suc i) (tree t rest) kids p l h =
      let n : k + suc i ≡ suc k + i = omega arith in
      had_kid P below had at path (suc k) i rest kids (p ∙ ap (λ n. at ++ n ∷ below) n) l
      (all_right P (lists_at (at ++ k ∷ []) t) (lists_from at (suc k) rest) h)

  had_below : (P : Listed M → Type 0) (below : List ℕ) → HadBelow P below
  had_below P [] at path t kids p l h = had_here P at path t kids p l h
  had_below P (i ∷ below) at path (element x a e ks m) kids p l h =
      had_kid P below (had_below P below) at path 0 i ks kids (let n : 0 + i ≡ i = omega arith in
      p ∙ ap (λ n. at ++ n ∷ below) (sym n)) l h.1
  had_below P (i ∷ below) at path (text_node us) kids p l h = absurd cc
  had_below P (i ∷ below) at path (cdata_node b) kids p l h = absurd cc
  had_below P (i ∷ below) at path (misc_node b) kids p l h = absurd cc

  -- what holds of all lists of a document holds of the list at a path
  pub had_at : (P : Listed M → Type 0) (doc : PlainDoc M) (path : List ℕ) (kids : List (Tree M)) →
      list_at path doc.root ≡ Some kids → AllByRecursion P (lists_of doc) →
      P (record { path = path; owner = owner_at path doc.root; kids = forest_of kids })
  had_at P doc [] kids l h =
      let k : doc.root ∷ [] ≡ kids = cc in
      rw (sym k) h.0
  had_at P doc (zero ∷ path) kids l h =
      had_below P path (0 ∷ []) (0 ∷ path) doc.root kids refl l h.1
  had_at P doc (suc i ∷ path) kids l h = absurd cc

  -- ---- the other way
  -- the list stands at its path, and has its owner
  pub record Stands (root : Tree M) (list : Listed M) : Type 0 where
    pub stands : list_at list.path root ≡ Some (trees_of list.kids)
    pub owner : list.owner ≡ owner_at list.path root

  further : (at below : List ℕ) (t : Tree M) →
      node_below (at ++ below) t ≡ option_and_then (node_below below) (node_below at t)
  further [] below t = refl
  further (i ∷ at) below t =
      elim (slice_get (kids_of t) i) as (λ o. option_and_then (node_below (at ++ below)) o
      ≡ option_and_then (node_below below) (option_and_then (node_below at) o))
      [ None ↦ refl | Some u ↦ further at below u ]

  -- the trees are kids of a node, from one place on
  abbrev AreKids : Tree M → List ℕ → ℕ → Forest M → Type 0
  AreKids root at k ks =
      (i : ℕ) (t : Tree M) → slice_get (trees_of ks) i ≡ Some t →
      node_below (at ++ (k + i) ∷ []) root ≡ Some t

  first_kid : (root : Tree M) (at : List ℕ) (k : ℕ) (t : Tree M) (rest : Forest M) →
      AreKids root at k (tree t rest) → node_below (at ++ k ∷ []) root ≡ Some t
  first_kid root at k t rest are = let n : k + 0 ≡ k = omega arith in rw n at (are 0 t refl)

  other_kids : (root : Tree M) (at : List ℕ) (k : ℕ) (t : Tree M) (rest : Forest M) →
      AreKids root at k (tree t rest) → AreKids root at (suc k) rest
  other_kids root at k t rest are i u g =
      let n : k + suc i ≡ suc k + i = omega arith in rw n at (are (suc i) u g)

  all_kids : (root : Tree M) (at : List ℕ) (t : Tree M) (ks : Forest M) →
      node_below at root ≡ Some t → kids_of t ≡ trees_of ks → AreKids root at 0 ks
  all_kids root at t ks b e i u g =
      let n : 0 + i ≡ i = omega arith in
      rw (n, further at (i ∷ []) root, b, e, g) refl

  mutual
    stand_at : (root : Tree M) (at : List ℕ) (t : Tree M) → node_below at root ≡ Some t →
        AllByRecursion (Stands root) (lists_at (0 ∷ at) t)
    stand_at root at (element x a e ks m) b = (
      record { stands = rw b refl; owner = rw b refl },
      stand_from root at 0 ks (all_kids root at (element x a e ks m) ks b refl),
    )
    stand_at root at (text_node us) b = tt
    stand_at root at (cdata_node c) b = tt
    stand_at root at (misc_node c) b = tt

    stand_from : (root : Tree M) (at : List ℕ) (k : ℕ) (ks : Forest M) → AreKids root at k ks →
        AllByRecursion (Stands root) (lists_from (0 ∷ at) k ks)
    stand_from root at k no_trees are = tt
    stand_from root at k (tree t rest) are =
        all_joined (Stands root) (lists_at (0 ∷ (at ++ k ∷ [])) t)
        (lists_from (0 ∷ at) (suc k) rest)
        (stand_at root (at ++ k ∷ []) t (first_kid root at k t rest are))
        (stand_from root at (suc k) rest (other_kids root at k t rest are))

  -- each list of a document stands at its path
  pub all_stand : (doc : PlainDoc M) → AllByRecursion (Stands doc.root) (lists_of doc)
  all_stand doc = (record { stands = refl; owner = refl }, stand_at doc.root [] doc.root refl)
