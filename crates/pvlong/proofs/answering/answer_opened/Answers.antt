use Rattle.std.proofs.Common.{false}
use Rattle.std.proofs.lemmas.Result.{err_from_is_err_and}
use Rattle.pv_dtd.specs.PlainForms.{plain_dtd}
use Rattle.pv_opening.specs.Documents.{document_stage}
use Rattle.pv_opening.specs.Returns.{plain_opened}
use Rattle.pv_opening.proofs.Stages.{found_behind, stop_found, tells_found}
use Rattle.pvlong.specs.RequestAnswers.{IsToldOf}
use Rattle.pvlong.specs.ToldNumbers.{TellsFor, not_least_in, response_in}
use Rattle.pvlong.proofs.answering.answer_opened.Goals as goal

pub returns-in_err-dtd : goal.returns-in_err-dtd
returns-in_err-dtd g c =
    let root = c.args.root.now in
    let stage = document_stage root (plain_dtd c.args.fetched.dtd) c.args.fetched.bytes.items in
    let p = err_from_is_err_and c.from_residual.result c.from_residual.ensures.1 in
    rw (p.1, p.2) (stop_found stage (IsToldOf c.args.question root false) c.in_err-dtd.field-0.0
    (λ never. never) c.in_err-dtd.ensures.returns)

pub returns : goal.returns
returns g c =
    let root = c.args.root.now in
    let question = c.args.question in
    let stage = document_stage root (plain_dtd c.args.fetched.dtd) c.args.fetched.bytes.items in
    let both = plain_opened c.in_ok-dtd.field-0 in
    let told = c.tell-told.result in
    found_behind stage (IsToldOf question root (not_least_in told)) both (response_in told)
    c.in_ok-dtd.ensures.returns
    (tells_found (TellsFor question root both.dtd both.doc both.bytes (not_least_in told))
    (response_in told) (rw c.deref.ensures.value at c.tell-told.ensures))
