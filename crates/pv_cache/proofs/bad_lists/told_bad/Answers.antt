use Rattle.std.proofs.Common.{arith}
use Rattle.pv_tree.specs.PlainForms.{plain}
use Rattle.pv_cache.proofs.TreeMarks.{bad-within, own-bad-small}
use Rattle.pv_cache.proofs.bad_lists.told_bad.Goals as goal

pub overflow_add-result : goal.overflow_add-result
overflow_add-result c =
    omega (
      arith,
      own-bad-small c.args.doc.now.mark.verdict,
      c.own_bad.ensures,
      c.bad_in.ensures,
      bad-within (plain c.args.doc.now.root),
      c.args.doc.now.small,
    )
