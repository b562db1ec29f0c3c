-- What a list shows of its kids, whatever stands below them and whatever their marks are.
use Rattle.std.specs.Prelude.{Bool, List, [], false, true, ℕ, ◌∷◌}
use Rattle.pv_chars.specs.Texts.{has_data}
use Rattle.pv_tree.specs.Plain.{Forest, Tree, cdata_node, element, misc_node, no_trees, text_node}
use Rattle.pv_tree.specs.Plain.{tree}

-- an element by its name; a text by whether it has a data unit; a CDATA section; a comment or
-- processing instruction
pub data Head : Type 0 where
  element_head : (name : List ℕ) → Head
  text_head : (with_data : Bool) → Head
  cdata_head : Head
  misc_head : Head

-- what a list shows of a kid, whatever stands below it
abbrev pub head_of : {M : Type 0} → Tree M → Head
head_of (element x attrs ending kids mark) = element_head x
head_of (text_node units) = text_head (has_data units)
head_of (cdata_node bytes) = cdata_head
head_of (misc_node bytes) = misc_head

-- a kid has a token: an element, a text with a data unit, a CDATA section
abbrev pub has_token : Head → Bool
has_token (element_head x) = true
has_token (text_head with_data) = with_data
has_token cdata_head = true
has_token misc_head = false

-- what a list shows of its kids
abbrev pub heads_of : {M : Type 0} → Forest M → List Head
heads_of no_trees = []
heads_of (tree t rest) = head_of t ∷ heads_of rest
