use Rattle.std.proofs.Common.{ap}
use Rattle.pv_tree.specs.Marks.{unmarked_doc}
use Rattle.pv_tree.specs.PlainDocs.{plain_doc}
use Rattle.test_layers.proofs.edit.chains.step_by_step.Goals as goal

pub prepare_back-requires : goal.prepare_back-requires
prepare_back-requires c = (unmarked_doc (plain_doc c.args.doc.now), c.in-Ok.ensures.leads_back (plain_doc c.make.new.doc) (ap unmarked_doc c.in_ok-make.ensures.ok))
