use Rattle.std.proofs.Common.{refl}
use Rattle.pv_dtd.specs.PlainForms.{plain_dtd}
use Rattle.pv_tree.specs.Lists.{lists_of}
use Rattle.pv_tree.specs.PlainDocs.{plain_doc}
use Rattle.pv_parallel.proofs.ListTallies.{all_fit}
use Rattle.pv_parallel.proofs.check.first_wide.Goals as goal

pub returns-then-is_narrow : goal.returns-then-is_narrow
returns-then-is_narrow c = all_fit (plain_dtd c.args.dtd.now) c.args.longest (lists_of (plain_doc c.args.doc.now)) (c.if-is_narrow.ensures.0 refl) c.requires
