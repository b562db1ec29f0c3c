-- The lists that a walk over the lists of a document hasn't come to, by what it keeps.
use Rattle.std.specs.Prelude.{◌≡◌, ℕ, ◌+◌, ◌-◌, List, [], ◌∷◌, ◌++◌, Option, Some, None, map}
use Rattle.pv_tree.specs.Plain.{nodes_in_all}
use Rattle.pv_tree.specs.Lists.{Listed, Owner, an_element, the_document}
use Rattle.pv_tree.specs.MarkedLists.{MarkedList, marked_from}
use Rattle.pv_tree.specs.PlainForms.{forest}
use Rattle.pv_tree.specs.declared.nodes.Mark.{Mark}
use Rattle.pv_tree.specs.declared.walk.DocList.{DocList}
use Rattle.pv_tree.specs.declared.walk.OwnerName.{OwnerName}
use Rattle.pv_tree.specs.declared.walk.OwnerName.TheVariants as list_of
use Rattle.pv_tree.specs.declared.walk.Siblings.{Siblings}

-- whose list it is
abbrev pub owner_named : OwnerName → Owner
owner_named list_of.Document = the_document
owner_named (list_of.Element name) = an_element name.now

-- a list of the program, at a path
abbrev pub list_given : List ℕ → DocList → Listed Mark
list_given path given =
    record { path = path; owner = owner_named given.owner; kids = forest given.kids.now }

-- a list of the program, at a path, with its mark
abbrev pub marked_list : List ℕ → DocList → MarkedList Mark
marked_list path given = record { list = list_given path given; mark = given.mark }

-- the first of these lists, at this path, if there is one, and the others
abbrev pub ComesTo : List (MarkedList Mark) → List ℕ → List (MarkedList Mark) → Option DocList →
    Type 0
ComesTo lists path others None = lists ≡ []
ComesTo lists path others (Some given) = lists ≡ marked_list path given ∷ others

-- ---- as the walk keeps it
-- the place of the node before these
abbrev pub place_before : Siblings → ℕ
place_before nodes = nodes.next - 1

-- the path of the list that the walk came to last
abbrev pub places_above : List Siblings → List ℕ
places_above above = map place_before above

abbrev pub left_among : List ℕ → Siblings → List (MarkedList Mark)
left_among path nodes = marked_from path nodes.next (forest nodes.nodes.now)

-- the lists that are left at the levels above, below a path
abbrev pub left_above : List ℕ → List Siblings → List (MarkedList Mark)
left_above path [] = []
left_above path (nodes ∷ above) =
    left_above (path ++ place_before nodes ∷ []) above ++ left_among path nodes

-- the lists that are left
abbrev pub left_of : List Siblings → Siblings → List (MarkedList Mark)
left_of above here = left_among (places_above above) here ++ left_above [] above

-- where the list of the document node, of these nodes, is the next
abbrev pub left_first : List ℕ → Option Mark → Siblings → List (MarkedList Mark)
left_first path None here = []
left_first path (Some mark) here = record {
  list = record { path = path; owner = the_document; kids = forest here.nodes.now };
  mark = mark;
} ∷ []

-- the nodes that are left at a level, and those before them
abbrev pub nodes_at : Siblings → ℕ
nodes_at nodes = nodes.next + nodes_in_all (forest nodes.nodes.now)

abbrev pub nodes_above : List Siblings → ℕ
nodes_above [] = 0
nodes_above (nodes ∷ above) = nodes_at nodes + nodes_above above

abbrev pub nodes_of : List Siblings → Siblings → ℕ
nodes_of above here = nodes_above above + nodes_at here
