use Rattle.std.proofs.Common.{subst}
use Rattle.pv_dtd.specs.Proper.{IsProperDtd}
use Rattle.pv_productive.specs.PlainForms.{dtd_of}
use Rattle.pv_tree.specs.PlainDocs.{plain_doc}
use Rattle.pv_deny.proofs.DenialsAtPaths.{answers_result}
use Rattle.pv_deny.proofs.fixed.deny.Goals as goal

pub returns-clause-exactly : goal.returns-clause-exactly
returns-clause-exactly c =
    answers_result c.one_outcome_law.ensures (dtd_of c.args.grammar.now) c.args.root.now
    (plain_doc c.args.doc.now) (subst IsProperDtd c.dtd.ensures c.proper_dtd_law.ensures)
    c.proper_doc_law.ensures c.deny_any.result c.deny_any.ensures.denied c.deny_any.ensures.refused
