-- Edits as lines of a script.
use Rattle.std.specs.Prelude.{ℕ, List, [], ◌∷◌, codes, decimal}
use Rattle.pv_edit.specs.declared.edits.Edit.{Edit}
use Rattle.pv_edit.specs.declared.edits.Edit.TheVariants.{Wrap, Insert, Unwrap, Rename, Split}
use Rattle.pv_edit.specs.declared.edits.Edit.TheVariants.{Join, SetText, AddText, DelText}
use Rattle.pv_words.specs.Paths.{path_text}
use Rattle.pv_words.specs.Words.{words}

-- The line of an edit: its word, the path, and what else it takes. Numbers are written in decimal
-- digits without leading zeros.
abbrev pub edit_text : Edit → List ℕ
edit_text (Wrap path from to name) =
    words (codes "wrap" ∷ path_text path ∷ decimal from ∷ decimal to ∷ name ∷ [])
edit_text (Insert path at name) = words (codes "insert" ∷ path_text path ∷ decimal at ∷ name ∷ [])
edit_text (Unwrap path) = words (codes "unwrap" ∷ path_text path ∷ [])
edit_text (Rename path name) = words (codes "rename" ∷ path_text path ∷ name ∷ [])
edit_text (Split path at) = words (codes "split" ∷ path_text path ∷ decimal at ∷ [])
edit_text (Join path) = words (codes "join" ∷ path_text path ∷ [])
edit_text (SetText path text) = words (codes "text" ∷ path_text path ∷ text ∷ [])
edit_text (AddText path at text) =
    words (codes "addtext" ∷ path_text path ∷ decimal at ∷ text ∷ [])
edit_text (DelText path) = words (codes "deltext" ∷ path_text path ∷ [])

-- the numbers in it
abbrev pub numbers_in : Edit → List ℕ
numbers_in (Wrap path from to name) = from ∷ to ∷ path
numbers_in (Insert path at name) = at ∷ path
numbers_in (Unwrap path) = path
numbers_in (Rename path name) = path
numbers_in (Split path at) = at ∷ path
numbers_in (Join path) = path
numbers_in (SetText path text) = path
numbers_in (AddText path at text) = at ∷ path
numbers_in (DelText path) = path
