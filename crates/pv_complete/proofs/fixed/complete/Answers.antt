use Rattle.std.proofs.Common.{IfErr}
use Rattle.std.proofs.lemmas.Result.{IfErr-weaker, IfOk-weaker, err_from_is_err_and}
use Rattle.pv_productive.specs.PlainForms.{dtd_of}
use Rattle.pv_dtd.proofs.ProperDtds.{proper}
use Rattle.pv_tree.specs.PlainDocs.{plain_doc}
use Rattle.pv_tree.specs.declared.nodes.Mark.{Mark}
use Rattle.pv_complete.specs.NeededElements.{HasCause}
use Rattle.pv_complete.proofs.OneNeed.{memory_alone_stops}
use Rattle.pv_complete.proofs.fixed.complete.Goals as goal

pub complete_by-requires-clause-verdicts : goal.complete_by-requires-clause-verdicts
complete_by-requires-clause-verdicts c = ∣ c.in_ok-verdicts.ensures.verdicts ∣₁

pub returns-in_err-verdicts-clause-succeeds : goal.returns-in_err-verdicts-clause-succeeds
returns-in_err-verdicts-clause-succeeds c =
    let d = dtd_of c.args.grammar.now in
    let p = err_from_is_err_and c.from_residual.result c.from_residual.ensures.1 in
    let caused : IfErr c.from_residual.result (HasCause d c.args.root.now (plain_doc c.args.doc.now)) = rw (p.1, p.2) c.in_err-verdicts.ensures.refused in
    memory_alone_stops Mark d c.args.root.now (plain_doc c.args.doc.now) (proper c.args.grammar.now.layout.dtd) c.proper_doc_law.ensures c.live_lists_law.ensures c.from_residual.result caused

pub returns-clause-completed : goal.returns-clause-completed
returns-clause-completed c = IfOk-weaker c.complete_by.result _ _ (λ made least. least c.in_ok-verdicts.ensures.verdicts) c.complete_by.ensures.completed

pub returns-clause-written : goal.returns-clause-written
returns-clause-written c = IfOk-weaker c.complete_by.result _ _ (λ made grown. grown c.in_ok-verdicts.ensures.verdicts) c.complete_by.ensures.written

pub returns-clause-bounded : goal.returns-clause-bounded
returns-clause-bounded c = IfOk-weaker c.complete_by.result _ _ (λ made few. few c.in_ok-verdicts.ensures.verdicts) c.complete_by.ensures.bounded

pub returns-clause-judged : goal.returns-clause-judged
returns-clause-judged c =
    let live = c.in_ok-verdicts.ensures.verdicts in
    IfOk-weaker c.complete_by.result _ _ (λ made few. record { verdicts = c.in_ok-verdicts.verdicts.verdicts; are_verdicts = live.verdicts }) c.complete_by.ensures.bounded

pub returns-clause-refused : goal.returns-clause-refused
returns-clause-refused c = IfErr-weaker c.complete_by.result _ _ (λ e why. why c.in_ok-verdicts.ensures.verdicts) c.complete_by.ensures.refused

pub returns-clause-succeeds : goal.returns-clause-succeeds
returns-clause-succeeds c =
    memory_alone_stops Mark (dtd_of c.args.grammar.now) c.args.root.now (plain_doc c.args.doc.now)
    (proper c.args.grammar.now.layout.dtd) c.proper_doc_law.ensures c.live_lists_law.ensures
    c.complete_by.result
    (IfErr-weaker c.complete_by.result _ (HasCause (dtd_of c.args.grammar.now) c.args.root.now
    (plain_doc c.args.doc.now)) (λ e why. why c.in_ok-verdicts.ensures.verdicts)
    c.complete_by.ensures.refused)
