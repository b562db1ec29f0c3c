use Rattle.std.proofs.Common.{◌∙◌, arith, [], rules}
use Rattle.pv_tree.specs.PlainForms.{plain}
use Rattle.pv_edit.specs.Changes.{owner_after}
use Rattle.pv_edit.specs.FittingChanges.{TakesChange, if_made, plain_change}
use Rattle.pv_edit.proofs.Levels.{first_spot, first_changed, put_back}
use Rattle.pv_edit.proofs.descent.+change_below.Goals as goal

pub change_below-made-requires : goal.change_below-made-requires
change_below-made-requires t c = (
  search rules,
  rw c.index_mut.ensures.value (first_spot c.args.path.now
      (TakesChange (plain_change [] c.args.change)) (plain c.args.node.now)
      c.take_kids-kids.result.items c.index_mut.result.now (omega arith)
      c.take_kids-kids.ensures.taken c.requires).1,
)

pub returns-in-len1-up : goal.returns-in-len1-up
returns-in-len1-up t c =
    put_back (plain c.args.node.now) _ _ _ c.take_kids-kids.ensures.rest c.put_kids.ensures
    ∙ first_changed c.args.path.now (if_made c.change_below-made.result
    (owner_after (plain_change [] c.args.change))) (plain c.args.node.now)
    c.take_kids-kids.result.items c.index_mut.result.now c.change_below-made.new.node
    (omega arith) c.take_kids-kids.ensures.taken
    (first_spot c.args.path.now (TakesChange (plain_change [] c.args.change))
    (plain c.args.node.now) c.take_kids-kids.result.items c.index_mut.result.now (omega arith)
    c.take_kids-kids.ensures.taken c.requires).0
    c.index_mut.ensures.value c.change_below-made.ensures
