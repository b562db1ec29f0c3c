use Rattle.std.specs.List.{AllByRecursion}
use Rattle.std.proofs.Common.{subst, sym}
use Rattle.pv_tree.specs.Lists.{lists_of}
use Rattle.pv_tree.specs.PlainDocs.{plain_doc}
use Rattle.pv_productive.specs.PlainForms.{dtd_of}
use Rattle.pv_productive.specs.declared.grammar.Grammar.{Grammar}
use Rattle.pv_missing.specs.Widths.{IsListForVerdict}
use Rattle.pv_deny.proofs.denying.denial_by.Goals as goal

pub denial_over-requires-clause-same : goal.denial_over-requires-clause-same
denial_over-requires-clause-same c = sym c.grammar-grammar.ensures

pub denial_over-requires-clause-narrow : goal.denial_over-requires-clause-narrow
denial_over-requires-clause-narrow c =
    let P : Grammar → Type 0 = λ v. AllByRecursion (IsListForVerdict (dtd_of v)) (lists_of (plain_doc c.args.doc.now)) in
    subst P (sym c.grammar-grammar.ensures) c.requires.narrow

pub denial_over-requires-clause-first : goal.denial_over-requires-clause-first
denial_over-requires-clause-first c = rw c.grammar-grammar.ensures c.requires.first

pub returns-clause-denied : goal.returns-clause-denied
returns-clause-denied c = rw c.grammar-grammar.ensures at c.denial_over.ensures.denied

pub returns-clause-refused : goal.returns-clause-refused
returns-clause-refused c = rw c.grammar-grammar.ensures at c.denial_over.ensures.refused
