use Rattle.std.proofs.Common.{Err, refl, arith}
use Rattle.std.proofs.lemmas.Result.{err_from_is_err_and}
use Rattle.pv_dtd.specs.PlainForms.{plain_dtd}
use Rattle.pv_drill.specs.Drill.{DRILL_DTD, drill_text}
use Rattle.pv_read.proofs.DocumentFacts.{few_nodes}
use Rattle.pv_session.specs.Sessions.{PlainSession}
use Rattle.pv_opening.specs.JudgedCounts.{judges_none, judging_stage, lists_judged, without_memory}
use Rattle.pv_opening.specs.Possibility.{width_stage}
use Rattle.pv_opening.specs.Stage.{beside}
use Rattle.pv_opening.specs.Documents.{document_stage}
use Rattle.pv_cli.specs.Drill.{DRILL_ROOT, reading_stage}
use Rattle.pv_opening.specs.Opening.{dtd_stage}
use Rattle.pv_opening.specs.Returns.{plain_opened}
use Rattle.pv_conversation.specs.Session.{guarding_stage}
use Rattle.pv_cli.proofs.CommandCounts.{opened_document}
use Rattle.pv_opening.proofs.JudgedLists.{opening_first, opening_second}
use Rattle.pv_opening.proofs.Stages.{returned_second, stopped_first, stopped_second}
use Rattle.pv_cli.proofs.commands.drill.begin_drill.Goals as goal

pub returns-in_err-dtd-clause-returns : goal.returns-in_err-dtd-clause-returns
returns-in_err-dtd-clause-returns g c =
    let n = c.args.n in
    let stop = c.in_err-dtd.field-0.0 in
    let stops = rw c.drill_dtd.ensures at c.in_err-dtd.ensures in
    let p = err_from_is_err_and c.from_residual.result c.from_residual.ensures.1 in
    rw (p.1, p.2)
    (stopped_first (reading_stage n) (λ o. guarding_stage DRILL_ROOT o.dtd o.doc) 0 stop
    (stopped_first (dtd_stage DRILL_DTD) (λ d. document_stage DRILL_ROOT d (drill_text n)) 0 stop
    stops))

pub returns-in_err-opened-clause-returns : goal.returns-in_err-opened-clause-returns
returns-in_err-opened-clause-returns g c =
    let n = c.args.n in
    let stop = c.in_err-opened.field-0.0 in
    let read = rw c.drill_dtd.ensures at c.in_ok-dtd.ensures in
    let stops = rw c.in_ok-bytes.ensures at c.in_err-opened.ensures.returns in
    let p = err_from_is_err_and c.from_residual-in_err-opened.result
    c.from_residual-in_err-opened.ensures.1 in
    rw (p.1, p.2)
    (stopped_first (reading_stage n) (λ o. guarding_stage DRILL_ROOT o.dtd o.doc) 0 stop
    (stopped_second (dtd_stage DRILL_DTD) (λ d. document_stage DRILL_ROOT d (drill_text n))
    (plain_dtd c.in_ok-dtd.dtd) 0 0 stop read stops))

pub begin-requires-clause-few : goal.begin-requires-clause-few
begin-requires-clause-few g c =
    omega (arith, few_nodes DRILL_ROOT _ _ c.in_ok-opened.ensures.returns.0.is_text)

pub begin-requires-clause-prolog : goal.begin-requires-clause-prolog
begin-requires-clause-prolog g c κs l = c.in_ok-opened.ensures.returns.0.is_text.spelled.is_prolog

pub returns-clause-returns : goal.returns-clause-returns
returns-clause-returns g c =
    let n = c.args.n in
    let read = rw c.drill_dtd.ensures at c.in_ok-dtd.ensures in
    let text = rw c.in_ok-bytes.ensures at c.in_ok-opened.ensures.returns in
    returned_second (λ s. s) (reading_stage n) (λ o. guarding_stage DRILL_ROOT o.dtd o.doc)
    (plain_opened c.in_ok-opened.opened) 0 0
    c.begin.result (plain_dtd c.in_ok-dtd.dtd, 0, 0, read, text, refl) c.begin.ensures.returns

pub returns-in_err-dtd-clause-checks : goal.returns-in_err-dtd-clause-checks
returns-in_err-dtd-clause-checks g c =
    let stop = c.in_err-dtd.field-0.0 in
    let stops = rw c.drill_dtd.ensures at c.in_err-dtd.ensures in
    let p = err_from_is_err_and c.from_residual.result c.from_residual.ensures.1 in
    rw (p.1, p.2)
    (opening_first PlainSession (dtd_stage DRILL_DTD)
    (λ d. judging_stage DRILL_ROOT d (drill_text c.args.n)) lists_judged 0 stop _ _ stops refl)

pub returns-in_err-bytes-clause-checks : goal.returns-in_err-bytes-clause-checks
returns-in_err-bytes-clause-checks g c =
    let p = err_from_is_err_and c.from_residual-in_err-bytes.result
    c.from_residual-in_err-bytes.ensures.1 in
    rw (p.1, p.2) (judges_none (without_memory refl) refl)

pub returns-in_err-opened-clause-checks : goal.returns-in_err-opened-clause-checks
returns-in_err-opened-clause-checks g c =
    let n = c.args.n in
    let stop = c.in_err-opened.field-0.0 in
    let dtd = plain_dtd c.in_ok-dtd.dtd in
    let read = rw c.drill_dtd.ensures at c.in_ok-dtd.ensures in
    let stops = rw c.in_ok-bytes.ensures at c.in_err-opened.ensures.returns in
    let p = err_from_is_err_and c.from_residual-in_err-opened.result
    c.from_residual-in_err-opened.ensures.1 in
    rw (p.1, p.2)
    (opening_second {Z = PlainSession} (dtd_stage DRILL_DTD)
    (λ d. judging_stage DRILL_ROOT d (drill_text n)) lists_judged dtd 0 _ _ (Err stop) read
    (opening_first PlainSession (document_stage DRILL_ROOT dtd (drill_text n))
    (λ o. beside o (width_stage o.dtd o.doc)) lists_judged 0 stop _ _ stops refl))

pub returns-clause-checks : goal.returns-clause-checks
returns-clause-checks g c =
    let n = c.args.n in
    let dtd = plain_dtd c.in_ok-dtd.dtd in
    let read = rw c.drill_dtd.ensures at c.in_ok-dtd.ensures in
    let text = rw c.in_ok-bytes.ensures at c.in_ok-opened.ensures.returns in
    opening_second (dtd_stage DRILL_DTD) (λ d. judging_stage DRILL_ROOT d (drill_text n))
    lists_judged dtd 0 _ _ c.begin.result read
    (opened_document DRILL_ROOT dtd (drill_text n) (plain_opened c.in_ok-opened.opened) _ _
    c.begin.result text c.begin.ensures.checks)
