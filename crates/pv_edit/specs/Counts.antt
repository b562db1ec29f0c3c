-- How many nodes an edit makes, and how many it removes.
use Rattle.std.specs.Prelude.{ℕ}
use Rattle.pv_edit.specs.declared.edits.Edit.{Edit}
use Rattle.pv_edit.specs.declared.edits.Edit.TheVariants.{Wrap, Insert, Unwrap, Rename, Split, Join}
use Rattle.pv_edit.specs.declared.edits.Edit.TheVariants.{SetText, AddText, DelText}

-- how many nodes an edit makes
abbrev pub nodes_made : Edit → ℕ
nodes_made (Wrap path from to name) = 1
nodes_made (Insert path at name) = 1
nodes_made (Unwrap path) = 0
nodes_made (Rename path name) = 0
nodes_made (Split path at) = 1
nodes_made (Join path) = 0
nodes_made (SetText path text) = 0
nodes_made (AddText path at text) = 1
nodes_made (DelText path) = 0

-- how many nodes an edit removes
abbrev pub nodes_taken : Edit → ℕ
nodes_taken (Wrap path from to name) = 0
nodes_taken (Insert path at name) = 0
nodes_taken (Unwrap path) = 1
nodes_taken (Rename path name) = 0
nodes_taken (Split path at) = 0
nodes_taken (Join path) = 1
nodes_taken (SetText path text) = 0
nodes_taken (AddText path at text) = 0
nodes_taken (DelText path) = 1
