use Rattle.std.proofs.Common.{subst}
use Rattle.pv_productive.specs.PlainForms.{dtd_of}
use Rattle.pv_productive.specs.declared.grammar.Grammar.{Grammar}
use Rattle.pv_tree.specs.PlainDocs.{plain_doc}
use Rattle.pv_fresh.specs.Answers.{FindsNarrow}
use Rattle.pv_parallel.proofs.check.check_doc_par.Goals as goal

pub returns-clause-narrow : goal.returns-clause-narrow
returns-clause-narrow g c =
    let P : Grammar → Type 0 = λ v. FindsNarrow (dtd_of v) (plain_doc c.args.doc.now) c.check_doc_par_by-2.result in
    subst P c.new-judge.ensures c.check_doc_par_by-2.ensures.narrow
