-- Which lists an edit changes, when it is made or made again and when it is undone: the paths of
-- the new document, in document order.
use Rattle.std.specs.Prelude.{ℕ, List, [], ◌∷◌, ◌++◌}
use Rattle.pv_edit.specs.Effects.{parent_of}
use Rattle.pv_edit.specs.declared.edits.Edit.{Edit}
use Rattle.pv_edit.specs.declared.edits.Edit.TheVariants.{Wrap, Insert, Unwrap, Rename, Split, Join}
use Rattle.pv_edit.specs.declared.edits.Edit.TheVariants.{SetText, AddText, DelText}

-- an edit is made, or it is undone
pub data Move : Type 0 where
  makes : (edit : Edit) → Move
  undoes : (edit : Edit) → Move

-- the lists that a move changes, by their paths after it
abbrev pub changed_lists : Move → List (List ℕ)
changed_lists (makes (Wrap path from to name)) = path ∷ (path ++ from ∷ []) ∷ []
changed_lists (makes (Insert path at name)) = path ∷ (path ++ at ∷ []) ∷ []
changed_lists (makes (Unwrap path)) = parent_of path ∷ []
changed_lists (makes (Rename path name)) = parent_of path ∷ path ∷ []
changed_lists (makes (Split path at)) = parent_of path ∷ []
changed_lists (makes (Join path)) = parent_of path ∷ []
changed_lists (makes (SetText path text)) = parent_of path ∷ []
changed_lists (makes (AddText path at text)) = path ∷ []
changed_lists (makes (DelText path)) = parent_of path ∷ []
changed_lists (undoes (Wrap path from to name)) = path ∷ []
changed_lists (undoes (Insert path at name)) = path ∷ []
changed_lists (undoes (Unwrap path)) = parent_of path ∷ path ∷ []
changed_lists (undoes (Rename path name)) = parent_of path ∷ path ∷ []
changed_lists (undoes (Split path at)) = parent_of path ∷ []
changed_lists (undoes (Join path)) = parent_of path ∷ []
changed_lists (undoes (SetText path text)) = parent_of path ∷ []
changed_lists (undoes (AddText path at text)) = path ∷ []
changed_lists (undoes (DelText path)) = parent_of path ∷ []
