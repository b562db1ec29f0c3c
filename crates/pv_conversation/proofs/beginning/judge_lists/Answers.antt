use Rattle.std.proofs.Common.{refl, subst}
use Rattle.std.proofs.lemmas.Result.{err_from_is_err_and}
use Rattle.pv_dtd.specs.Plain.{PlainDtd}
use Rattle.pv_tree.specs.PlainDocs.{plain_doc}
use Rattle.pv_opening.specs.JudgedCounts.{judges_all, judges_none}
use Rattle.pv_opening.specs.Possibility.{AreAllNarrow, width_stage}
use Rattle.pv_opening.specs.Returns.{StopsBy}
use Rattle.pv_opening.proofs.JudgedLists.{stops_within}
use Rattle.pv_conversation.proofs.beginning.judge_lists.Goals as goal

pub returns-in_err-verdicts-clause-denied : goal.returns-in_err-verdicts-clause-denied
returns-in_err-verdicts-clause-denied g c =
    let doc = plain_doc c.args.doc.now in
    let stop = c.in_err-verdicts.field-0.0 in
    let stops = subst (λ (h : PlainDtd). StopsBy (width_stage h doc) 0 stop) c.judge-judge.ensures c.in_err-verdicts.ensures.denied in
    let p = err_from_is_err_and c.from_residual.result c.from_residual.ensures.1 in
    rw (p.1, p.2) stops

pub returns-in_err-verdicts-clause-checks : goal.returns-in_err-verdicts-clause-checks
returns-in_err-verdicts-clause-checks g c =
    let d = c.args.grammar.now in
    let doc = plain_doc c.args.doc.now in
    let stop = c.in_err-verdicts.field-0.0 in
    let stops = subst (λ (h : PlainDtd). StopsBy (width_stage h doc) 0 stop) c.judge-judge.ensures c.in_err-verdicts.ensures.denied in
    let p = err_from_is_err_and c.from_residual.result c.from_residual.ensures.1 in
    rw (p.1, p.2) (judges_none (stops_within (width_stage d doc) 0 stop stops) c.in_err-verdicts.ensures.unjudged)

pub returns-in_err-root-clause-denied : goal.returns-in_err-root-clause-denied
returns-in_err-root-clause-denied g c =
    let p = err_from_is_err_and c.from_residual-in_err-root.result c.from_residual-in_err-root.ensures.1 in
    rw (p.1, p.2) refl

pub returns-in_err-root-clause-checks : goal.returns-in_err-root-clause-checks
returns-in_err-root-clause-checks g c =
    let doc = plain_doc c.args.doc.now in
    let narrow = subst (λ (h : PlainDtd). AreAllNarrow h doc) c.judge-judge.ensures c.in_ok-verdicts.ensures.has.narrow in
    let p = err_from_is_err_and c.from_residual-in_err-root.result c.from_residual-in_err-root.ensures.1 in
    rw (p.1, p.2) (judges_all tt 0 (narrow, refl) c.in_ok-verdicts.ensures.judged)

pub returns-clause-has : goal.returns-clause-has
returns-clause-has g c = rw c.judge-judge.ensures at c.in_ok-verdicts.ensures.has

pub returns-clause-checks : goal.returns-clause-checks
returns-clause-checks g c =
    let doc = plain_doc c.args.doc.now in
    let narrow = subst (λ (h : PlainDtd). AreAllNarrow h doc) c.judge-judge.ensures c.in_ok-verdicts.ensures.has.narrow in
    (tt, 0, (narrow, refl), c.in_ok-verdicts.ensures.judged)
