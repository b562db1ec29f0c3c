use Rattle.std.proofs.Common.{Some, slice_get, ◌-◌, ◌≡◌}
use Rattle.pv_tree.specs.Lists.{Listed, lists_of}
use Rattle.pv_tree.specs.PlainDocs.{plain_doc}
use Rattle.pv_tree.specs.declared.nodes.Mark.{Mark}
use Rattle.pv_fresh.proofs.Lists.{left_by}
use Rattle.pv_fresh.proofs.firsts.path_of_list.Given as goal

-- the list is among those that are left, behind as many as are still to come
abbrev pub invariant-loop-list : goal.invariant-loop-list
invariant-loop-list l = (list : Listed Mark) → slice_get (lists_of (plain_doc l.doc)) l.number ≡ Some list → slice_get (left_by l.lists) (l.number - l._list) ≡ Some list
