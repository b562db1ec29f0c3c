use Rattle.std.proofs.Common.{[], ◌-◌, drop, length, take}
use Rattle.pv_tree.specs.PlainForms.{plain}
use Rattle.pv_edit.specs.Changes.{owner_after}
use Rattle.pv_edit.specs.FittingChanges.{plain_change}
use Rattle.pv_edit.proofs.Levels.{same_unless_made}
use Rattle.pv_edit.proofs.descent.change_root.Goals as goal

pub returns-in-len1-up-clause-unchanged : goal.returns-in-len1-up-clause-unchanged
returns-in-len1-up-clause-unchanged c =
    let path = c.args.list.now in
    same_unless_made c.change_below.result (take (length path - 1) (drop 1 path))
    (owner_after (plain_change [] c.args.change)) (plain c.args.root.now)
    (plain c.change_below.new.node) c.change_below.ensures
