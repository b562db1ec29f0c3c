-- Document trees as plain data. M is the type of the marks that elements carry; they are no part
-- of a tree's meaning.
use Rattle.std.specs.Prelude.{ℕ, suc, ◌+◌, max, Bool, true, false, List, [], ◌∷◌}

-- how an element ends: by the `/>` of an empty-element tag, or by an end tag with these bytes
-- between its name and `>`
pub data Ending : Type 0 where
  short : Ending
  tagged : (gap : List ℕ) → Ending

mutual
  -- an element with the bytes between its name and `>` or `/>`; a text as its units; a CDATA
  -- section; a comment or processing instruction (XML 1.0, 3.1)
  pub data Tree (M : Type 0) : Type 0 where
    element : (name attrs : List ℕ) → (ending : Ending) → (kids : Forest M) → (mark : M) → Tree M
    text_node : (units : List (List ℕ)) → Tree M
    cdata_node : (bytes : List ℕ) → Tree M
    misc_node : (bytes : List ℕ) → Tree M

  -- trees side by side
  pub data Forest (M : Type 0) : Type 0 where
    no_trees : Forest M
    tree : (first : Tree M) → (rest : Forest M) → Forest M

-- trees in a list, side by side
abbrev pub forest_of : {M : Type 0} → List (Tree M) → Forest M
forest_of [] = no_trees
forest_of (t ∷ ts) = tree t (forest_of ts)

-- trees side by side, in a list
abbrev pub trees_of : {M : Type 0} → Forest M → List (Tree M)
trees_of no_trees = []
trees_of (tree t rest) = t ∷ trees_of rest

-- the tree with other marks
abbrev mutual
  pub map_marks : {M N : Type 0} → (M → N) → Tree M → Tree N
  map_marks f (element x attrs ending kids mark) =
      element x attrs ending (map_marks_all f kids) (f mark)
  map_marks f (text_node units) = text_node units
  map_marks f (cdata_node bytes) = cdata_node bytes
  map_marks f (misc_node bytes) = misc_node bytes

  pub map_marks_all : {M N : Type 0} → (M → N) → Forest M → Forest N
  map_marks_all f no_trees = no_trees
  map_marks_all f (tree t rest) = tree (map_marks f t) (map_marks_all f rest)

-- the tree without its marks
abbrev pub without_marks : {M : Type 0} → Tree M → Tree Unit
without_marks t = map_marks (λ _. tt) t

-- the nodes at all depths
abbrev mutual
  pub nodes_in : {M : Type 0} → Tree M → ℕ
  nodes_in (element x attrs ending kids mark) = suc (nodes_in_all kids)
  nodes_in (text_node units) = 1
  nodes_in (cdata_node bytes) = 1
  nodes_in (misc_node bytes) = 1

  pub nodes_in_all : {M : Type 0} → Forest M → ℕ
  nodes_in_all no_trees = 0
  nodes_in_all (tree t rest) = nodes_in t + nodes_in_all rest

-- how many elements stand one inside another
abbrev mutual
  pub depth_of : {M : Type 0} → Tree M → ℕ
  depth_of (element x attrs ending kids mark) = suc (depth_of_all kids)
  depth_of (text_node units) = 0
  depth_of (cdata_node bytes) = 0
  depth_of (misc_node bytes) = 0

  pub depth_of_all : {M : Type 0} → Forest M → ℕ
  depth_of_all no_trees = 0
  depth_of_all (tree t rest) = max (depth_of t) (depth_of_all rest)

-- the tree is an element
abbrev pub is_element : {M : Type 0} → Tree M → Bool
is_element (element x attrs ending kids mark) = true
is_element (text_node units) = false
is_element (cdata_node bytes) = false
is_element (misc_node bytes) = false

-- a document: the bytes before its root's tag, the root, and the bytes after the root's end; its
-- own mark is that of the list of its root
pub record PlainDoc (M : Type 0) : Type 0 where
  pub before : List ℕ
  pub root : Tree M
  pub after : List ℕ
  pub mark : M
