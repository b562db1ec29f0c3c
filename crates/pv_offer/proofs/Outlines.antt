-- The outline of a tree: which nodes stand where, whatever the elements are named.
use Rattle.std.proofs.Common.{Bool, List, None, Option, Some, [], ap, false, length, map, max, refl, suc, sym, true, zero, ℕ, slice_get, ◌+◌, ◌∙◌, ◌∷◌, ◌≡◌, if◌then◌else◌}
use Rattle.std.specs.Option.{option_and_then, option_map}
use Rattle.pv_chars.specs.Texts.{has_data}
use Rattle.pv_dtd.specs.Plain.{PlainDtd}
use Rattle.pv_edit.specs.Changes.{Change, change_below, change_kid, first_tree, list_after, owner_after, root_after, with_list}
use Rattle.pv_edit.proofs.Levels.{forest-trees}
use Rattle.pv_model.specs.Plain.{PlainToken, text}
use Rattle.pv_tree.specs.Places.{kids_of, list_at, list_of, node_below}
use Rattle.pv_tree.specs.Plain.{Forest, Tree, cdata_node, depth_of, depth_of_all, element, forest_of, misc_node, no_trees, nodes_in, nodes_in_all, short, text_node, tree, trees_of}
use Rattle.pv_tree.specs.Words.{node_before, word_of}

abbrev mutual
  pub outline : {M : Type 0} → Tree M → Tree Unit
  outline (element x attrs ending kids mark) = element [] [] short (outline_all kids) tt
  outline (text_node units) = text_node units
  outline (cdata_node bytes) = cdata_node bytes
  outline (misc_node bytes) = misc_node bytes

  pub outline_all : {M : Type 0} → Forest M → Forest Unit
  outline_all no_trees = no_trees
  outline_all (tree t rest) = tree (outline t) (outline_all rest)

-- the outlines of trees
abbrev pub outlines : {M : Type 0} → List (Tree M) → List (Tree Unit)
outlines ts = map outline ts

get_map : {A B : Type 0} (f : A → B) (xs : List A) (i : ℕ) → slice_get (map f xs) i ≡ option_map f (slice_get xs i)
get_map f [] i = refl
get_map f (x ∷ xs) zero = refl
get_map f (x ∷ xs) (suc i) = get_map f xs i

text_long : (b : Bool) (u v : List PlainToken) → length u ≡ length v → length (if b then text ∷ u else u) ≡ length (if b then text ∷ v else v)
text_long true u v h = ap suc h
text_long false u v h = h

module _ {M : Type 0} where
  pub forest_outline : (ts : List (Tree M)) → outline_all (forest_of ts) ≡ forest_of (outlines ts)
  forest_outline [] = refl
  forest_outline (t ∷ ts) = ap (tree (outline t)) (forest_outline ts)

  trees_outline : (ks : Forest M) → trees_of (outline_all ks) ≡ outlines (trees_of ks)
  trees_outline no_trees = refl
  trees_outline (tree t rest) = ap (λ us. outline t ∷ us) (trees_outline rest)

  -- ---- what an outline shows
  mutual
    pub depth_outline : (t : Tree M) → depth_of (outline t) ≡ depth_of t
    depth_outline (element x a e ks m) = ap suc (depths_outline ks)
    depth_outline (text_node us) = refl
    depth_outline (cdata_node b) = refl
    depth_outline (misc_node b) = refl

    depths_outline : (ks : Forest M) → depth_of_all (outline_all ks) ≡ depth_of_all ks
    depths_outline no_trees = refl
    depths_outline (tree t rest) = ap (λ n. max n (depth_of_all (outline_all rest))) (depth_outline t) ∙ ap (max (depth_of t)) (depths_outline rest)

  mutual
    pub nodes_outline : (t : Tree M) → nodes_in (outline t) ≡ nodes_in t
    nodes_outline (element x a e ks m) = ap suc (all_nodes_outline ks)
    nodes_outline (text_node us) = refl
    nodes_outline (cdata_node b) = refl
    nodes_outline (misc_node b) = refl

    all_nodes_outline : (ks : Forest M) → nodes_in_all (outline_all ks) ≡ nodes_in_all ks
    all_nodes_outline no_trees = refl
    all_nodes_outline (tree t rest) = ap (λ n. n + nodes_in_all (outline_all rest)) (nodes_outline t) ∙ ap (λ n. nodes_in t + n) (all_nodes_outline rest)

  before_long : (g : PlainDtd) (t : Tree M) (u v : List PlainToken) → length u ≡ length v → length (node_before g (outline t) u) ≡ length (node_before g t v)
  before_long g (element x a e ks m) u v h = ap suc h
  before_long g (text_node us) u v h = text_long (has_data us) u v h
  before_long g (cdata_node b) u v h = ap suc h
  before_long g (misc_node b) u v h = h

  word_long : (g : PlainDtd) (ks : Forest M) → length (word_of g (outline_all ks)) ≡ length (word_of g ks)
  word_long g no_trees = refl
  word_long g (tree t rest) = before_long g t (word_of g (outline_all rest)) (word_of g rest) (word_long g rest)

  -- lists of one outline have words of one length
  pub words_long : (g : PlainDtd) (ts us : List (Tree M)) → outlines ts ≡ outlines us → length (word_of g (forest_of ts)) ≡ length (word_of g (forest_of us))
  words_long g ts us h =
      let forests : outline_all (forest_of ts) ≡ outline_all (forest_of us) = forest_outline ts ∙ ap forest_of h ∙ sym (forest_outline us) in
      sym (word_long g (forest_of ts)) ∙ ap (λ k. length (word_of g k)) forests ∙ word_long g (forest_of us)

  -- ---- what stands at a path
  kids_outline : (t : Tree M) → kids_of (outline t) ≡ outlines (kids_of t)
  kids_outline (element x a e ks m) = trees_outline ks
  kids_outline (text_node us) = refl
  kids_outline (cdata_node b) = refl
  kids_outline (misc_node b) = refl

  node_in : (f : Tree Unit → Option (Tree Unit)) (g : Tree M → Option (Tree M)) → ((t : Tree M) → f (outline t) ≡ option_map outline (g t)) → (o : Option (Tree M)) →
      option_and_then f (option_map outline o) ≡ option_map outline (option_and_then g o)
  node_in f g h None = refl
  node_in f g h (Some t) = h t

  node_outline : (path : List ℕ) (t : Tree M) → node_below path (outline t) ≡ option_map outline (node_below path t)
  node_outline [] t = refl
  node_outline (i ∷ path) t =
      ap (λ ts. option_and_then (node_below path) (slice_get ts i)) (kids_outline t)
      ∙ ap (option_and_then (node_below path)) (get_map outline (kids_of t) i)
      ∙ node_in (node_below path) (node_below path) (node_outline path) (slice_get (kids_of t) i)

  list_of_outline : (t : Tree M) → list_of (outline t) ≡ option_map outlines (list_of t)
  list_of_outline (element x a e ks m) = ap Some (trees_outline ks)
  list_of_outline (text_node us) = refl
  list_of_outline (cdata_node b) = refl
  list_of_outline (misc_node b) = refl

  list_in_outline : (o : Option (Tree M)) → option_and_then list_of (option_map outline o) ≡ option_map outlines (option_and_then list_of o)
  list_in_outline None = refl
  list_in_outline (Some t) = list_of_outline t

  pub list_outline : (path : List ℕ) (root : Tree M) → list_at path (outline root) ≡ option_map outlines (list_at path root)
  list_outline [] root = refl
  list_outline (zero ∷ path) root = ap (option_and_then list_of) (node_outline path root) ∙ list_in_outline (node_below path root)
  list_outline (suc i ∷ path) root = refl

  -- ---- changes
  with_list_outline : (b : Bool) (ts : List (Tree M)) (t : Tree M) (us : List (Tree M)) → (c : Bool) → outlines ts ≡ outlines us → outline (with_list b ts t) ≡ outline (with_list c us t)
  with_list_outline b ts (element x a e ks m) us c h = ap (λ k. element [] [] short k tt) (forest_outline ts ∙ ap forest_of h ∙ sym (forest_outline us))
  with_list_outline b ts (text_node ws) us c h = refl
  with_list_outline b ts (cdata_node d) us c h = refl
  with_list_outline b ts (misc_node d) us c h = refl

  first_outline : (t : Tree M) (ts : List (Tree M)) → outline (first_tree t ts) ≡ first_tree (outline t) (outlines ts)
  first_outline t [] = refl
  first_outline t (u ∷ us) = refl

  module _ (f g : Tree M → Tree M) (alike : (t : Tree M) → outline (f t) ≡ outline (g t)) where
    kid_alike : (i : ℕ) (ks : Forest M) → outline_all (change_kid f i ks) ≡ outline_all (change_kid g i ks)
    kid_alike i no_trees = refl
    kid_alike zero (tree t rest) = ap (λ u. tree u (outline_all rest)) (alike t)
    kid_alike (suc i) (tree t rest) = ap (tree (outline t)) (kid_alike i rest)

  below_alike : (path : List ℕ) (f g : Tree M → Tree M) → ((t : Tree M) → outline (f t) ≡ outline (g t)) → (t : Tree M) → outline (change_below path f t) ≡ outline (change_below path g t)
  below_alike [] f g h t = h t
  below_alike (i ∷ path) f g h (element x a e ks m) = ap (λ k. element [] [] short k tt) (kid_alike (change_below path f) (change_below path g) (below_alike path f g h) i ks)
  below_alike (i ∷ path) f g h (text_node us) = refl
  below_alike (i ∷ path) f g h (cdata_node b) = refl
  below_alike (i ∷ path) f g h (misc_node b) = refl

  -- changes that make lists of one outline make documents of one outline
  pub root_alike : (path : List ℕ) (c d : Change M) (root : Tree M) → ((ts : List (Tree M)) →
      outlines (list_after c ts) ≡ outlines (list_after d ts)) → outline (root_after path c root)
      ≡ outline (root_after path d root)
  root_alike [] c d root h = first_outline root (list_after c (root ∷ [])) ∙ ap (first_tree (outline root)) (h (root ∷ [])) ∙ sym (first_outline root (list_after d (root ∷ [])))
  root_alike (i ∷ path) c d root h =
      below_alike path (owner_after c) (owner_after d) (λ t. with_list_outline c.shorten (list_after c (kids_of t)) t (list_after d (kids_of t)) d.shorten (h (kids_of t))) root

  kid_kept : (f : Tree M → Tree M) → ((t : Tree M) → outline (f t) ≡ outline t) → (i : ℕ) (ks : Forest M) → outline_all (change_kid f i ks) ≡ outline_all ks
  kid_kept f h i no_trees = refl
  kid_kept f h zero (tree t rest) = ap (λ u. tree u (outline_all rest)) (h t)
  kid_kept f h (suc i) (tree t rest) = ap (tree (outline t)) (kid_kept f h i rest)

  below_kept : (path : List ℕ) (f : Tree M → Tree M) → ((t : Tree M) → outline (f t) ≡ outline t) → (t : Tree M) → outline (change_below path f t) ≡ outline t
  below_kept [] f h t = h t
  below_kept (i ∷ path) f h (element x a e ks m) = ap (λ k. element [] [] short k tt) (kid_kept (change_below path f) (below_kept path f h) i ks)
  below_kept (i ∷ path) f h (text_node us) = refl
  below_kept (i ∷ path) f h (cdata_node b) = refl
  below_kept (i ∷ path) f h (misc_node b) = refl

  owner_kept : (b : Bool) (t : Tree M) (ts : List (Tree M)) → outlines ts ≡ outlines (kids_of t) → outline (with_list b ts t) ≡ outline t
  owner_kept b (element x a e ks m) ts h = ap (λ k. element [] [] short k tt) (forest_outline ts ∙ ap forest_of h ∙ sym (forest_outline (trees_of ks)) ∙ ap outline_all (forest-trees ks))
  owner_kept b (text_node us) ts h = refl
  owner_kept b (cdata_node d) ts h = refl
  owner_kept b (misc_node d) ts h = refl

  -- a change that keeps the outlines of lists keeps that of the document
  pub root_kept : (path : List ℕ) (c : Change M) (root : Tree M) → ((ts : List (Tree M)) → outlines (list_after c ts) ≡ outlines ts) → outline (root_after path c root) ≡ outline root
  root_kept [] c root h = first_outline root (list_after c (root ∷ [])) ∙ ap (first_tree (outline root)) (h (root ∷ []))
  root_kept (i ∷ path) c root h = below_kept path (owner_after c) (λ t. owner_kept c.shorten t (list_after c (kids_of t)) (h (kids_of t))) root
