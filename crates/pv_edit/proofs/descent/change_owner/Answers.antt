use Rattle.pv_tree.specs.PlainForms.{plain, plain_all}
use Rattle.std.proofs.Common.{◌∙◌}
use Rattle.pv_edit.proofs.Levels.{kids_again}
use Rattle.pv_edit.proofs.descent.change_owner.Goals as goal

pub returns-in-Err : goal.returns-in-Err
returns-in-Err c =
    kids_again (plain c.args.node.now) (plain c.take_kids-kids.new.node) (plain c.put_kids.new.node)
    (plain_all c.fill.new.kids.items)
    (c.in-Err.ensures.unchanged ∙ c.take_kids-kids.ensures.taken)
    c.take_kids-kids.ensures.rest c.put_kids.ensures
