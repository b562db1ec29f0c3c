-- What an edit names.
use Rattle.std.specs.Prelude.{ℕ, List}
use Rattle.pv_edit.specs.declared.edits.Edit.{Edit}
use Rattle.pv_edit.specs.declared.edits.Edit.TheVariants.{Wrap, Insert, Unwrap, Rename, Split, Join}
use Rattle.pv_edit.specs.declared.edits.Edit.TheVariants.{SetText, AddText, DelText}

-- the path that an edit names: that of a list for Wrap, Insert and AddText, and else that of a node
abbrev pub path_named : Edit → List ℕ
path_named (Wrap path from to name) = path
path_named (Insert path at name) = path
path_named (Unwrap path) = path
path_named (Rename path name) = path
path_named (Split path at) = path
path_named (Join path) = path
path_named (SetText path text) = path
path_named (AddText path at text) = path
path_named (DelText path) = path
