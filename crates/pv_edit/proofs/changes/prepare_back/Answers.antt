use Rattle.std.proofs.lemmas.Result.{IfOk-weaker}
use Rattle.pv_tree.specs.PlainDocs.{plain_doc}
use Rattle.pv_tree.specs.Marks.{blank_mark}
use Rattle.pv_edit.proofs.PreparedChanges.{task-bare, task-can, task-kept, task-led, task-unshort}
use Rattle.pv_edit.proofs.RevertedDocuments.{backs}
use Rattle.pv_edit.proofs.changes.prepare_back.Goals as goal

pub task_back-requires : goal.task_back-requires
task_back-requires c = (backs blank_mark c.args.inverse.now (plain_doc c.args.doc.now) c.requires.0 c.requires.1).ready

pub returns-clause-can : goal.returns-clause-can
returns-clause-can c = IfOk-weaker c.task_back.result _ _ (λ task t. task-can (plain_doc c.args.doc.now) c.args.inverse.now task t c.requires.0 c.requires.1) c.task_back.ensures

pub returns-clause-kept : goal.returns-clause-kept
returns-clause-kept c = IfOk-weaker c.task_back.result _ _ (λ task t. task-kept (plain_doc c.args.doc.now) c.args.inverse.now task t c.requires.0 c.requires.1) c.task_back.ensures

pub returns-clause-unshort : goal.returns-clause-unshort
returns-clause-unshort c = IfOk-weaker c.task_back.result _ _ (λ task t. task-unshort (plain_doc c.args.doc.now) c.args.inverse.now task t c.requires.0 c.requires.1) c.task_back.ensures

pub returns-clause-bare : goal.returns-clause-bare
returns-clause-bare c = IfOk-weaker c.task_back.result _ _ (λ task t. task-bare (plain_doc c.args.doc.now) c.args.inverse.now task t) c.task_back.ensures

pub returns-clause-led : goal.returns-clause-led
returns-clause-led c = IfOk-weaker c.task_back.result _ _ (λ task t before made l h. task-led (plain_doc c.args.doc.now) c.args.inverse.now task t before l made h) c.task_back.ensures
