use Rattle.std.proofs.Common.{Err, length, refl, subst}
use Rattle.std.proofs.lemmas.Result.{err_from_is_err_and}
use Rattle.pv_dtd.specs.Plain.{PlainDtd}
use Rattle.pv_tree.specs.Lists.{lists_of}
use Rattle.pv_tree.specs.PlainDocs.{plain_doc}
use Rattle.pv_opening.specs.JudgedCounts.{CountsJudged, CountsNoMore, judges_none, without_memory}
use Rattle.pv_opening.specs.Possibility.{width_stage}
use Rattle.pv_opening.specs.Returns.{ending_of}
use Rattle.pv_conversation.proofs.beginning.prepare.Goals as goal

pub returns-in_err-grammar-clause-checks : goal.returns-in_err-grammar-clause-checks
returns-in_err-grammar-clause-checks g c =
    let p = err_from_is_err_and c.from_residual.result c.from_residual.ensures.1 in
    rw (p.1, p.2) (judges_none (without_memory refl) refl)

pub returns-in_err-root-clause-denied : goal.returns-in_err-root-clause-denied
returns-in_err-root-clause-denied g c =
    let p = err_from_is_err_and c.from_residual-in_err-root.result c.from_residual-in_err-root.ensures.1 in
    rw (p.1, p.2) (rw c.in_ok-grammar.ensures at c.in_err-root.ensures.denied)

pub returns-in_err-root-clause-checks : goal.returns-in_err-root-clause-checks
returns-in_err-root-clause-checks g c =
    let doc = plain_doc c.args.doc.now in
    let stop = c.in_err-root.field-0.0 in
    let checks = subst (λ (d : PlainDtd). CountsJudged (width_stage d doc) (λ _. length (lists_of doc)) CountsNoMore (ending_of (Err stop)) c.args.steps.now c.judge_lists.new.steps)
    c.in_ok-grammar.ensures c.in_err-root.ensures.checks in
    let p = err_from_is_err_and c.from_residual-in_err-root.result c.from_residual-in_err-root.ensures.1 in
    rw (p.1, p.2) checks

pub returns-clause-has : goal.returns-clause-has
returns-clause-has g c = rw c.in_ok-root.ensures.root c.in_ok-root.ensures.has

pub returns-clause-checks : goal.returns-clause-checks
returns-clause-checks g c =
    let doc = plain_doc c.args.doc.now in
    let counts = c.in_ok-root.ensures.checks in
    (counts.0, counts.1, subst (λ (d : PlainDtd). (width_stage d doc).Opens counts.0 counts.1) c.in_ok-grammar.ensures counts.2, counts.3)
