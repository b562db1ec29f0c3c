use Rattle.std.proofs.Common.{ap}
use Rattle.pv_tree.specs.Marks.{unmarked_doc}
use Rattle.pv_tree.specs.PlainDocs.{plain_doc}
use Rattle.pv_edit.proofs.fixed.apply.Goals as goal

pub returns-clause-leads_back : goal.returns-clause-leads_back
returns-clause-leads_back c = c.in_ok-task.ensures.leads_back (plain_doc c.make.new.doc) (ap unmarked_doc c.in_ok-make.ensures.ok)
