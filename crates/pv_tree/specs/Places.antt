-- What stands at a path of a document. The empty path is the document node, and [0] is its root.
use Rattle.std.specs.Prelude.{◌≡◌, ℕ, zero, suc, List, [], ◌∷◌}
use Rattle.std.specs.Prelude.{Option, Some, None, option_map, option_and_then, slice_get}
use Rattle.pv_tree.specs.Plain.{Tree, element, text_node, cdata_node, misc_node, trees_of}
use Rattle.pv_tree.specs.Lists.{Listed, Owner, the_document, an_element}

-- the kids of an element, and none of any other node
abbrev pub kids_of : {M : Type 0} → Tree M → List (Tree M)
kids_of (element x attrs ending kids mark) = trees_of kids
kids_of (text_node units) = []
kids_of (cdata_node bytes) = []
kids_of (misc_node bytes) = []

-- the node at a path below this one
abbrev pub node_below : {M : Type 0} → List ℕ → Tree M → Option (Tree M)
node_below [] t = Some t
node_below (i ∷ path) t = option_and_then (node_below path) (slice_get (kids_of t) i)

pub data Spot (M : Type 0) : Type 0 where
  at_document : Spot M
  at_node : (node : Tree M) → Spot M

-- what stands at a path: the document node or a node
abbrev pub spot_at : {M : Type 0} → List ℕ → Tree M → Option (Spot M)
spot_at [] root = Some at_document
spot_at (zero ∷ path) root = option_map at_node (node_below path root)
spot_at (suc i ∷ path) root = None

-- the list of an element
abbrev pub list_of : {M : Type 0} → Tree M → Option (List (Tree M))
list_of (element x attrs ending kids mark) = Some (trees_of kids)
list_of (text_node units) = None
list_of (cdata_node bytes) = None
list_of (misc_node bytes) = None

-- the list at a path
abbrev pub list_at : {M : Type 0} → List ℕ → Tree M → Option (List (Tree M))
list_at [] root = Some (root ∷ [])
list_at (zero ∷ path) root = option_and_then list_of (node_below path root)
list_at (suc i ∷ path) root = None

-- who has a list: the document node, or an element
abbrev pub owner_of : {M : Type 0} → Spot M → Option Owner
owner_of at_document = Some the_document
owner_of (at_node (element x attrs ending kids mark)) = Some (an_element x)
owner_of (at_node (text_node units)) = None
owner_of (at_node (cdata_node bytes)) = None
owner_of (at_node (misc_node bytes)) = None

-- What stands at the path of this list, below this root, has the owner and the kids of the list.
pub record IsListAt {M : Type 0} (root : Tree M) (list : Listed M) : Type 0 where
  pub has_owner : option_and_then owner_of (spot_at list.path root) ≡ Some list.owner
  pub has_kids : list_at list.path root ≡ Some (trees_of list.kids)
