-- Where a list of a changed document stood before the change.
use Rattle.std.specs.Prelude.{◌≡◌, ℕ, ◌+◌, ◌-◌, nat_lt, ◌==◌, List, [], ◌∷◌, if◌then◌else◌, Option}
use Rattle.std.specs.Prelude.{Some, None, option_map, length}
use Rattle.std.specs.List.{AllByRecursion, between}
use Rattle.pv_tree.specs.Plain.{Tree, element, text_node, cdata_node, misc_node, forest_of}
use Rattle.pv_tree.specs.Plain.{PlainDoc}
use Rattle.pv_tree.specs.Places.{Spot, at_document, at_node, spot_at, list_at}
use Rattle.pv_tree.specs.Heads.{heads_of}
use Rattle.pv_edit.specs.Changes.{Change, Filling, others, around, inner, named, in_place_of}
use Rattle.pv_edit.specs.Inverses.{name_on}
use Rattle.pv_edit.specs.Reasons.{kids_at}

-- In what came in place of the kids from one place on: kid number k there, and the path below it.
-- New trees stood nowhere.
abbrev pub origin_inside : {M : Type 0} → Filling M → ℕ → ℕ → List ℕ → Option (List ℕ)
origin_inside (others trees) from k path = None
origin_inside (around name attrs ending mark) from k [] = None
origin_inside (around name attrs ending mark) from k (j ∷ path) = Some ((from + j) ∷ path)
origin_inside inner from k path = Some (from ∷ k ∷ path)
origin_inside (named name) from k path = Some ((from + k) ∷ path)

-- below the changed list, into which so many kids came: those before them stay, and those after
-- them have moved
abbrev pub origin_below : {M : Type 0} → Change M → ℕ → List ℕ → Option (List ℕ)
origin_below c count [] = Some []
origin_below c count (i ∷ path) =
    if nat_lt i c.from then Some (i ∷ path)
    else (if nat_lt i (c.from + count) then origin_inside c.filling c.from (i - c.from) path
    else Some ((c.to + (i - (c.from + count))) ∷ path))

-- at any path, by the path of the changed list
abbrev pub origin_at : List ℕ → (List ℕ → Option (List ℕ)) → List ℕ → Option (List ℕ)
origin_at [] below path = below path
origin_at (j ∷ list) below [] = Some []
origin_at (j ∷ list) below (i ∷ path) =
    if i == j then option_map (λ p. j ∷ p) (origin_at list below path) else Some (i ∷ path)

-- how many kids come in place of others
abbrev pub number_of_new : {M : Type 0} → Change M → Tree M → ℕ
number_of_new c root = length (in_place_of c.filling (between c.from c.to (kids_at c.list root)))

abbrev pub origin_of : {M : Type 0} → Change M → Tree M → List ℕ → Option (List ℕ)
origin_of c root path = origin_at c.list (origin_below c (number_of_new c root)) path

-- the mark of the list that a node owns; that of the document node is given
abbrev pub mark_on : {M : Type 0} → M → Option (Spot M) → M
mark_on m None = m
mark_on m (Some at_document) = m
mark_on m (Some (at_node (element x attrs ending kids mark))) = mark
mark_on m (Some (at_node (text_node units))) = m
mark_on m (Some (at_node (cdata_node bytes))) = m
mark_on m (Some (at_node (misc_node bytes))) = m

-- The list at a path of one document is the one that stood at a path of another: the owner has the
-- same name and mark, and the kids the same heads.
pub record IsSameList {M : Type 0} (before after : PlainDoc M) (origin path : List ℕ) : Type 0 where
  pub kids : List (Tree M)
  pub stood : list_at origin before.root ≡ Some kids
  pub others : List (Tree M)
  pub stands : list_at path after.root ≡ Some others
  pub same_heads : heads_of (forest_of kids) ≡ heads_of (forest_of others)
  pub same_name : name_on (spot_at origin before.root) ≡ name_on (spot_at path after.root)
  pub same_mark : mark_on before.mark (spot_at origin before.root)
      ≡ mark_on after.mark (spot_at path after.root)

-- a list that stood in the document before a change
pub record IsKeptList {M : Type 0} (c : Change M) (before after : PlainDoc M) (path : List ℕ) :
    Type 0 where
  pub origin : List ℕ
  pub is_origin : origin_of c before.root path ≡ Some origin
  pub same : IsSameList before after origin path

-- a path is none of these
abbrev pub IsNone : List ℕ → List (List ℕ) → Type 0
IsNone path lists = AllByRecursion (λ list. path ≡ list → ⊥) lists
