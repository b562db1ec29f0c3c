use Rattle.std.proofs.Common.{false, refl}
use Rattle.std.proofs.lemmas.Result.{err_from_is_err_and}
use Rattle.pv_productive.specs.PlainForms.{dtd_of}
use Rattle.pv_tree.specs.Marks.{blank_mark}
use Rattle.pv_read.proofs.Agreement.{spelled_where_meant}
use Rattle.pv_opening.specs.Documents.{OpensDocument, PlainOpened, RefusesDocument, document_stage}
use Rattle.pv_opening.specs.Stage.{short_of_memory}
use Rattle.pv_opening.proofs.Stages.{found_behind, refusal_stops, stop_found, tells_found}
use Rattle.pvlong.specs.RequestAnswers.{IsToldOf}
use Rattle.pvlong.specs.ToldNumbers.{TellsFor}
use Rattle.pvlong.specs.declared.requests.Question.TheVariants.{Check}
use Rattle.pvlong.proofs.ToldLines.{checked_for}
use Rattle.pvlong.proofs.possibility.check_bytes.Goals as goal

pub returns-in_err-plan : goal.returns-in_err-plan
returns-in_err-plan c =
    let p = err_from_is_err_and c.from_residual.result c.from_residual.ensures.1 in
    rw (p.1, p.2) (short_of_memory 0 refl refl)

pub respond_told-requires : goal.respond_told-requires
respond_told-requires c =
    let read = c.in-Ok.ensures.read in
    (c.args.root.now, dtd_of c.new-judge.result, read.0, c.in-Ok.ensures.tells read.0 read.1)

pub returns-in-Ok : goal.returns-in-Ok
returns-in-Ok c =
    let root = c.args.root.now in
    let d = dtd_of c.args.grammar.now in
    let bytes = c.args.bytes.now in
    let read = c.in-Ok.ensures.read in
    let opened : PlainOpened = record { dtd = d; bytes = bytes; doc = read.0 } in
    let is_text = (spelled_where_meant blank_mark root bytes read.0 read.1).0 in
    let told = c.respond_told.result in
    found_behind (document_stage root d bytes) (IsToldOf Check root false) opened told
    (record { is_dtd = refl; are_bytes = refl; is_text = is_text }, refl)
    (tells_found (TellsFor Check root d read.0 bytes false) told
    (checked_for root bytes d read.0 told (c.respond_told.ensures root d read.0
    (rw c.new-judge.ensures at c.in-Ok.ensures.tells read.0 read.1))))

pub returns : goal.returns
returns c =
    let root = c.args.root.now in
    let d = dtd_of c.args.grammar.now in
    let bytes = c.args.bytes.now in
    let stop = c.refuse_document.result in
    stop_found (document_stage root d bytes) (IsToldOf Check root false) stop (λ never. never)
    (refusal_stops (OpensDocument root d bytes) (RefusesDocument root bytes) stop
    (c.refuse_document.ensures root bytes c.in-Err.ensures.refused))
