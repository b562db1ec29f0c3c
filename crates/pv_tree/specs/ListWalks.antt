-- A walk over the lists of a document.
use Rattle.std.specs.Prelude.{ℕ, List, ◌++◌, Option}
use Rattle.pv_tree.specs.MarkedLists.{MarkedList}
use Rattle.pv_tree.specs.Walks.{ComesTo, left_first, left_of, places_above}
use Rattle.pv_tree.specs.declared.nodes.Mark.{Mark}
use Rattle.pv_tree.specs.declared.walk.DocList.{DocList}
use Rattle.pv_tree.specs.declared.walk.Lists.{Lists}

-- the path of the list that the walk came to last
abbrev pub path_come_to : Lists → List ℕ
path_come_to walk = places_above walk.levels.above.items

-- the lists that it hasn't come to
abbrev pub lists_left : Lists → List (MarkedList Mark)
lists_left walk = left_first (path_come_to walk) walk.first walk.levels.here
    ++ left_of walk.levels.above.items walk.levels.here

-- it comes to the next list, if there is one
abbrev pub ComesToNext : Lists → Lists → Option DocList → Type 0
ComesToNext before after given =
    ComesTo (lists_left before) (path_come_to after) (lists_left after) given
