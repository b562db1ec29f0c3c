-- The plain tree that a node of the program is.
use Rattle.std.specs.Prelude.{List, map}
use Rattle.pv_tree.specs.Plain.{Ending, short, tagged, Tree, element, text_node, cdata_node}
use Rattle.pv_tree.specs.Plain.{misc_node, Forest, forest_of}
use Rattle.pv_tree.specs.declared.nodes.End.{End}
use Rattle.pv_tree.specs.declared.nodes.End.TheVariants as end
use Rattle.pv_tree.specs.declared.nodes.Mark.{Mark}
use Rattle.pv_tree.specs.declared.nodes.Node.{Node, fold-Node}
use Rattle.pv_tree.specs.declared.nodes.Node.TheOpen.{Node-F}

abbrev pub plain_end : End → Ending
plain_end end.Short = short
plain_end (end.Tagged gap) = tagged gap

-- one level, its kids already read
abbrev pub plain_step : Node-F (Tree Mark) → Tree Mark
plain_step (Node-F.Elem name attrs e kids mark) =
    element name attrs (plain_end e) (forest_of kids.items) mark
plain_step (Node-F.Text units) = text_node units
plain_step (Node-F.Cdata bytes) = cdata_node bytes
plain_step (Node-F.Misc bytes) = misc_node bytes

-- the plain form of a node
abbrev pub plain : Node → Tree Mark
plain = fold-Node (Tree Mark) plain_step

-- and of nodes
abbrev pub plain_all : List Node → List (Tree Mark)
plain_all nodes = map plain nodes

-- the forest of nodes side by side
abbrev pub forest : List Node → Forest Mark
forest nodes = forest_of (plain_all nodes)
