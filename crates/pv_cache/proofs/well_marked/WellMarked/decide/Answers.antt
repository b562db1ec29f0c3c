use Rattle.std.proofs.Common.{arith, ◌<◌}
use Rattle.pv_cache.specs.BadLists.{bad_gained, bad_lost}
use Rattle.pv_cache.specs.VerdictsAfterChange.{IsFirstAmong}
use Rattle.pv_edit.specs.FittingChanges.{plain_task}
use Rattle.pv_tree.specs.PlainDocs.{plain_doc}
use Rattle.pv_tree.specs.PlainForms.{plain}
use Rattle.pv_cache.proofs.Tasks.{first-unaccepted, task-place}
use Rattle.pv_cache.proofs.well_marked.WellMarked.decide.Goals as goal

pub overflow_cast-from : goal.overflow_cast-from
overflow_cast-from g c =
    let t = c.args.task.now in
    let p =
    task-place (plain c.args.self.now.doc.root) (plain_task t) c.requires.task.can
    c.requires.task.unshort c.args.self.now.doc.mark c.args.self.now.doc.small in
    omega arith

pub returns-clause-refused : goal.returns-clause-refused
returns-clause-refused g c =
    let vs = c.in-Ok.verdicts in
    let first : IsFirstAmong c.args.task.now.list vs.outer vs.inner c.in-Some.path =
    rw c.in-Some.is at c.in_ok-first_impossible.ensures in
    let after = c.bad_after.ensures in
    let more : bad_lost (plain_task c.args.task.now) (plain_doc c.args.self.now.doc)
    < bad_gained vs.outer vs.inner = omega (arith, c.if-bad_after-self.false) in
    first-unaccepted c.args.self.now.grammar c.args.self.now.root (plain_doc c.args.self.now.doc)
    (plain_task c.args.task.now) c.requires.task.can c.requires.task.unshort vs.outer vs.inner
    c.in-Ok.ensures.judged c.in-Some.path more first
