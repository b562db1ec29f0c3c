-- The leaves of a document: texts, CDATA sections, comments and processing instructions, in
-- document order.
use Rattle.std.specs.Prelude.{List, [], ◌∷◌, ◌++◌}
use Rattle.pv_tree.specs.Plain.{Tree, element, text_node, cdata_node, misc_node, Forest, no_trees}
use Rattle.pv_tree.specs.Plain.{tree}
use Rattle.pv_edit.specs.declared.edits.Edit.{Edit}
use Rattle.pv_edit.specs.declared.edits.Edit.TheVariants.{Wrap, Insert, Unwrap, Rename, Split, Join}
use Rattle.pv_edit.specs.declared.edits.Edit.TheVariants.{SetText, AddText, DelText}

-- the texts, CDATA sections, comments and processing instructions in a tree, in document order
abbrev mutual
  pub leaves_in : {M : Type 0} → Tree M → List (Tree Unit)
  leaves_in (element x attrs ending kids mark) = leaves_in_all kids
  leaves_in (text_node units) = text_node units ∷ []
  leaves_in (cdata_node bytes) = cdata_node bytes ∷ []
  leaves_in (misc_node bytes) = misc_node bytes ∷ []

  -- and in trees side by side
  pub leaves_in_all : {M : Type 0} → Forest M → List (Tree Unit)
  leaves_in_all no_trees = []
  leaves_in_all (tree t rest) = leaves_in t ++ leaves_in_all rest

-- an edit of tags, and of no text
abbrev pub IsOfTags : Edit → Type 0
IsOfTags (Wrap path from to name) = Unit {0}
IsOfTags (Insert path at name) = Unit {0}
IsOfTags (Unwrap path) = Unit {0}
IsOfTags (Rename path name) = Unit {0}
IsOfTags (Split path at) = ⊥
IsOfTags (Join path) = ⊥
IsOfTags (SetText path text) = ⊥
IsOfTags (AddText path at text) = ⊥
IsOfTags (DelText path) = ⊥
