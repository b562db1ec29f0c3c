-- A node of a document among its siblings.
use Rattle.std.specs.Prelude.{◌≡◌, ℕ, List, [], ◌∷◌, ◌++◌, length, Option, Some, None}
use Rattle.pv_tree.specs.Plain.{Tree}
use Rattle.pv_tree.specs.Places.{Spot, at_node, spot_at}

-- a node of the tree stands at the path; the document node is none
pub record IsInner {M : Type 0} (path : List ℕ) (root : Tree M) : Type 0 where
  pub node : Tree M
  pub there : spot_at path root ≡ Some (at_node node)

-- a list in three parts: what stands before a place, there, and after it
pub record IsParted {M : Type 0} (ts : List (Tree M)) (place : ℕ) (front : List (Tree M))
    (node : Tree M) (back : List (Tree M)) : Type 0 where
  pub whole : ts ≡ front ++ node ∷ back
  pub count : length front ≡ place

abbrev pub first_spot : {M : Type 0} → List (Tree M) → Option (Spot M)
first_spot [] = None
first_spot (t ∷ ts) = Some (at_node t)
