use Rattle.std.proofs.Common.{drop}
use Rattle.std.specs.List.{AllByRecursion}
use Rattle.pv_dtd.specs.PlainForms.{plain_dtd}
use Rattle.pv_write.specs.PieceForms.{plain_lists}
use Rattle.pv_long.specs.NewTags.{HasNamesOf}
use Rattle.pv_long.proofs.tags.check_tags.Given as goal

-- if the DTD has the names of the tags of the lists that are left, it has all
abbrev pub invariant-loop-list : goal.invariant-loop-list
invariant-loop-list l =
    AllByRecursion (HasNamesOf (plain_dtd l.dtd)) (plain_lists (drop l.list-index l.lists)) →
    AllByRecursion (HasNamesOf (plain_dtd l.dtd)) (plain_lists l.lists)
