use Rattle.pv_productive.specs.PlainForms.{dtd_of}
use Rattle.pv_tree.specs.PlainDocs.{plain_doc}
use Rattle.pv_long.proofs.ExactAnswers.{refused}
use Rattle.pv_long.proofs.telling.missing.Goals as goal

pub returns-clause-refused : goal.returns-clause-refused
returns-clause-refused g c =
    refused (dtd_of c.args.grammar.now) c.args.root.now (plain_doc c.args.doc.now)
    c.in_ok-verdicts.verdicts c.missing_by.result c.in_ok-verdicts.ensures.possible
    c.missing_by.ensures.refused
