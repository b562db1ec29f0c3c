-- The words of lists of nodes.
use Rattle.std.specs.Prelude.{List, [], ◌∷◌, if◌then◌else◌}
use Rattle.pv_chars.specs.Texts.{has_data}
use Rattle.pv_model.specs.Plain.{PlainToken, text}
use Rattle.pv_dtd.specs.Plain.{PlainDtd, number_of}
use Rattle.pv_dtd.specs.Hedge.{token}
use Rattle.pv_tree.specs.Plain.{Tree, element, text_node, cdata_node, misc_node, Forest, no_trees}
use Rattle.pv_tree.specs.Plain.{tree}

-- An element by its name; a text with a data unit, and a CDATA section, are text; other nodes are
-- nothing.
abbrev pub node_before : {M : Type 0} → PlainDtd → Tree M → List PlainToken → List PlainToken
node_before g (element x attrs ending kids mark) u = token (number_of g x) ∷ u
node_before g (text_node units) u = if has_data units then text ∷ u else u
node_before g (cdata_node bytes) u = text ∷ u
node_before g (misc_node bytes) u = u

-- the word of a list: a name for each element, and data for each CDATA section and each text that
-- has data
abbrev pub word_of : {M : Type 0} → PlainDtd → Forest M → List PlainToken
word_of g no_trees = []
word_of g (tree t rest) = node_before g t (word_of g rest)
