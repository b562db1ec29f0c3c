use Rattle.std.proofs.Common.{◌≡◌, ◌++◌, drop, map}
use Rattle.pv_lists.specs.Judgements.{path_in}
use Rattle.pv_lists.specs.declared.open.OpenList.{OpenList}
use Rattle.pv_lists.proofs.open.places_in.Given as goal

abbrev pub invariant-loop-list : goal.invariant-loop-list
invariant-loop-list g l = l.places.items ++ map (λ (list : OpenList _). list.kids) (drop l.list-index l.outer) ≡ path_in l.outer
