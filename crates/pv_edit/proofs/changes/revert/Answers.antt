use Rattle.std.proofs.Common.{ap}
use Rattle.std.proofs.lemmas.Result.{on_ok_weaker}
use Rattle.pv_tree.specs.PlainDocs.{plain_doc}
use Rattle.pv_tree.specs.Marks.{unmarked_doc}
use Rattle.pv_edit.proofs.changes.revert.Goals as goal

pub returns-clause-led : goal.returns-clause-led
returns-clause-led c before l = on_ok_weaker c.make.result (λ h. c.in_ok-task.ensures.led before (plain_doc c.make.new.doc) l (ap unmarked_doc h)) c.make.ensures.ok
