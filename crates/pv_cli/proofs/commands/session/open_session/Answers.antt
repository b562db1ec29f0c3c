use Rattle.std.proofs.Common.{arith, refl}
use Rattle.std.proofs.lemmas.Result.{err_from_is_err_and}
use Rattle.pv_dtd.specs.PlainForms.{plain_dtd}
use Rattle.pv_read.proofs.DocumentFacts.{few_nodes}
use Rattle.pv_session.specs.Sessions.{PlainSession}
use Rattle.pv_opening.specs.JudgedCounts.{lists_judged}
use Rattle.pv_opening.specs.Possibility.{width_stage}
use Rattle.pv_opening.specs.Stage.{beside}
use Rattle.pv_opening.specs.Documents.{document_stage}
use Rattle.pv_opening.specs.Returns.{plain_opened}
use Rattle.pv_conversation.specs.Session.{guarding_stage}
use Rattle.pv_cli.proofs.CommandCounts.{opened_document}
use Rattle.pv_opening.proofs.JudgedLists.{opening_first}
use Rattle.pv_opening.proofs.Stages.{returned_second, stopped_first}
use Rattle.pv_cli.proofs.commands.session.open_session.Goals as goal

pub begin-requires-clause-few : goal.begin-requires-clause-few
begin-requires-clause-few g c =
    omega (arith, few_nodes c.args.root.now _ _ c.in_ok-opened.ensures.returns.0.is_text)

pub begin-requires-clause-prolog : goal.begin-requires-clause-prolog
begin-requires-clause-prolog g c κs l = c.in_ok-opened.ensures.returns.0.is_text.spelled.is_prolog

pub returns-in_err-opened-clause-returns : goal.returns-in_err-opened-clause-returns
returns-in_err-opened-clause-returns g c =
    let root = c.args.root.now in
    let stage = document_stage root (plain_dtd c.args.fetched.dtd) c.args.fetched.bytes.items in
    let p = err_from_is_err_and c.from_residual.result c.from_residual.ensures.1 in
    rw (p.1, p.2)
    (stopped_first stage (λ opened. guarding_stage root opened.dtd opened.doc) 0
    c.in_err-opened.field-0.0 c.in_err-opened.ensures.returns)

pub returns-clause-returns : goal.returns-clause-returns
returns-clause-returns g c =
    let root = c.args.root.now in
    let opened = plain_opened c.in_ok-opened.opened in
    let stage = document_stage root (plain_dtd c.args.fetched.dtd) c.args.fetched.bytes.items in
    let read = c.in_ok-opened.ensures.returns in
    returned_second (λ s. s) stage (λ o. guarding_stage root o.dtd o.doc) opened 0 0 c.begin.result
    read c.begin.ensures.returns

pub returns-in_err-opened-clause-checks : goal.returns-in_err-opened-clause-checks
returns-in_err-opened-clause-checks g c =
    let root = c.args.root.now in
    let stage = document_stage root (plain_dtd c.args.fetched.dtd) c.args.fetched.bytes.items in
    let stop = c.in_err-opened.field-0.0 in
    let p = err_from_is_err_and c.from_residual.result c.from_residual.ensures.1 in
    rw (p.1, p.2)
    (opening_first PlainSession stage (λ o. beside o (width_stage o.dtd o.doc)) lists_judged 0 stop
    _ _ c.in_err-opened.ensures.returns refl)

pub returns-clause-checks : goal.returns-clause-checks
returns-clause-checks g c =
    opened_document c.args.root.now _ _ (plain_opened c.in_ok-opened.opened) _ _ c.begin.result
    c.in_ok-opened.ensures.returns c.begin.ensures.checks
