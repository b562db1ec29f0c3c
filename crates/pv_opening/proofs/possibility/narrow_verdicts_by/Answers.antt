use Rattle.pv_productive.specs.PlainForms.{dtd_of}
use Rattle.pv_tree.specs.PlainDocs.{plain_doc}
use Rattle.pv_opening.proofs.possibility.narrow_verdicts_by.Goals as goal

pub returns-in-Err-clause-denied : goal.returns-in-Err-clause-denied
returns-in-Err-clause-denied g c =
    c.refuse_wide.ensures (dtd_of c.args.judge.now) (plain_doc c.args.doc.now) c.in-Err.ensures.refused
