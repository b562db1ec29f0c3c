use Rattle.std.proofs.Common.{◌≡◌, ℕ, List, Result, Ok, Err, refl, subst, sym}
use Rattle.std.proofs.lemmas.Result.{err_from_is_err_and}
use Rattle.pv_dtd.specs.Plain.{PlainDtd}
use Rattle.pv_productive.specs.PlainForms.{dtd_of}
use Rattle.pv_tree.specs.Plain.{PlainDoc}
use Rattle.pv_tree.specs.PlainDocs.{plain_doc}
use Rattle.pv_tree.specs.declared.nodes.Mark.{Mark}
use Rattle.pv_opening.specs.JudgedCounts.{judges_all, judges_none}
use Rattle.pv_opening.specs.Possibility.{width_stage}
use Rattle.pv_opening.specs.Response.{plain_response}
use Rattle.pv_opening.specs.Returns.{TakesCourse}
use Rattle.pv_opening.specs.Stage.{Responds, short_of_memory}
use Rattle.pv_commands.specs.Standoff.{IsShownCourse, TellsNested}
use Rattle.pv_opening.specs.declared.response.Response.{Response}
use Rattle.pv_opening.specs.declared.stop.Stop.{Stop}
use Rattle.pv_opening.proofs.JudgedLists.{stops_within}
use Rattle.pv_opening.proofs.Stages.{found_behind, stop_found, tells_found}
use Rattle.pv_commands.proofs.standoff.show.Goals as goal

-- an answer by the argument is one by the opened DTD, which equals it
shows_as : (root : List ℕ) (g d : PlainDtd) (doc : PlainDoc Mark) (result : Result Response Stop) →
    d ≡ g → TakesCourse (IsShownCourse root g doc) result →
    TakesCourse (IsShownCourse root d doc) result
shows_as root g d doc result is finds =
    subst (λ (h : PlainDtd). TakesCourse (IsShownCourse root h doc) result) (sym is) finds

pub returns-in_err-verdicts-clause-tells : goal.returns-in_err-verdicts-clause-tells
returns-in_err-verdicts-clause-tells g c = λ d is.
    let own = dtd_of c.args.grammar.now in
    let doc = plain_doc c.args.doc.now in
    let p = err_from_is_err_and c.from_residual.result c.from_residual.ensures.1 in
    let stop = c.in_err-verdicts.field-0.0 in
    rw (p.1, p.2)
    (shows_as c.args.root.now own d doc (Err stop) is
    (stop_found (width_stage own doc) (λ _. Responds (TellsNested c.args.root.now own doc)) stop
    (λ never. never) c.in_err-verdicts.ensures.denied))

pub returns-in_err-line-clause-tells : goal.returns-in_err-line-clause-tells
returns-in_err-line-clause-tells g c = λ d is.
    let p = err_from_is_err_and c.from_residual-in_err-line.result
    c.from_residual-in_err-line.ensures.1 in
    rw (p.1, p.2) (short_of_memory 0 refl refl)

pub returns-in_err-with_document-clause-tells : goal.returns-in_err-with_document-clause-tells
returns-in_err-with_document-clause-tells g c = λ d is.
    let p = err_from_is_err_and c.from_residual-in_err-with_document.result
    c.from_residual-in_err-with_document.ensures.1 in
    rw (p.1, p.2) (short_of_memory 0 refl refl)

pub returns-clause-tells : goal.returns-clause-tells
returns-clause-tells g c = λ d is.
    let own = dtd_of c.args.grammar.now in
    let doc = plain_doc c.args.doc.now in
    let root = c.args.root.now in
    let has = c.in_ok-verdicts.ensures.has in
    let result : Result Response Stop = Ok c.in_ok-with_document.field-0 in
    let told : TellsNested root own doc (plain_response c.in_ok-with_document.field-0) = record {
      checked = plain_response c.in_ok-line.line;
      tells = c.in_ok-line.ensures root own doc has;
      is_response = c.in_ok-with_document.ensures;
    } in
    shows_as root own d doc result is
    (found_behind (width_stage own doc) (λ _. Responds (TellsNested root own doc)) tt result
    (has.narrow, refl) (tells_found (TellsNested root own doc) result told))

pub returns-in_err-verdicts-clause-counts : goal.returns-in_err-verdicts-clause-counts
returns-in_err-verdicts-clause-counts g c =
    let stop = c.in_err-verdicts.field-0.0 in
    let p = err_from_is_err_and c.from_residual.result c.from_residual.ensures.1 in
    rw (p.1, p.2)
    (judges_none
    (stops_within (width_stage (dtd_of c.args.grammar.now) (plain_doc c.args.doc.now)) 0 stop
    c.in_err-verdicts.ensures.denied) c.in_err-verdicts.ensures.unjudged)

pub returns-in_err-line-clause-counts : goal.returns-in_err-line-clause-counts
returns-in_err-line-clause-counts g c =
    judges_all tt 0 (c.in_ok-verdicts.ensures.has.narrow, refl) c.in_ok-verdicts.ensures.judged

pub returns-in_err-with_document-clause-counts : goal.returns-in_err-with_document-clause-counts
returns-in_err-with_document-clause-counts g c =
    judges_all tt 0 (c.in_ok-verdicts.ensures.has.narrow, refl) c.in_ok-verdicts.ensures.judged

pub returns-clause-counts : goal.returns-clause-counts
returns-clause-counts g c =
    judges_all tt 0 (c.in_ok-verdicts.ensures.has.narrow, refl) c.in_ok-verdicts.ensures.judged
