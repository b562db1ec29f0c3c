use Rattle.std.proofs.Common.{arith}
use Rattle.pv_edit.specs.FittingChanges.{plain_task}
use Rattle.pv_tree.specs.PlainDocs.{plain_doc}
use Rattle.pv_tree.specs.PlainForms.{plain}
use Rattle.pv_cache.proofs.ImpossibleCounts.{inner-small, updated-counted}
use Rattle.pv_cache.proofs.TreeMarks.{bad-within, own-bad-small}
use Rattle.pv_cache.proofs.well_marked.WellMarked.bad_after.Goals as goal

pub overflow_add-result : goal.overflow_add-result
overflow_add-result c =
    let vs = c.args.verdicts.now in
    let doc = c.args.self.now.doc in
    omega (
      arith,
      c.args.self.now.counted,
      own-bad-small doc.mark.verdict,
      bad-within (plain doc.root),
      doc.small,
      c.own_bad.ensures,
      own-bad-small vs.outer,
      c.own_inner.ensures,
      inner-small vs.inner,
    )

pub overflow_sub-result : goal.overflow_sub-result
overflow_sub-result c =
    let vs = c.args.verdicts.now in
    let d = c.args.self.now.grammar in
    let root = c.args.self.now.root in
    let doc = plain_doc c.args.self.now.doc in
    let task = c.requires.task in
    let counted =
    updated-counted d root doc (plain_task c.args.task.now) vs.outer vs.inner 0 task.can task.unshort
    task.bare c.requires.judged in
    omega (
      arith,
      counted,
      c.args.self.now.counted,
      c.own_bad.ensures,
      c.own_inner.ensures,
      c.bad_lost.ensures,
    )

pub returns : goal.returns
returns c =
    let vs = c.args.verdicts.now in
    let d = c.args.self.now.grammar in
    let root = c.args.self.now.root in
    let doc = plain_doc c.args.self.now.doc in
    let task = c.requires.task in
    let counted =
    updated-counted d root doc (plain_task c.args.task.now) vs.outer vs.inner 0 task.can task.unshort
    task.bare c.requires.judged in
    omega (
      arith,
      counted,
      c.args.self.now.counted,
      c.own_bad.ensures,
      c.own_inner.ensures,
      c.bad_lost.ensures,
    )
