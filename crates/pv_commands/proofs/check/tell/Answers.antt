use Rattle.std.proofs.Common.{◌≡◌, ℕ, List, Result, Ok, Err, refl, sym, subst}
use Rattle.std.proofs.lemmas.Result.{err_from_is_err_and}
use Rattle.pv_dtd.specs.Plain.{PlainDtd}
use Rattle.pv_productive.specs.PlainForms.{dtd_of}
use Rattle.pv_tree.specs.Plain.{PlainDoc}
use Rattle.pv_tree.specs.PlainDocs.{plain_doc}
use Rattle.pv_tree.specs.declared.nodes.Mark.{Mark}
use Rattle.pv_opening.specs.JudgedCounts.{judges_all, judges_none}
use Rattle.pv_opening.specs.Possibility.{TellsPossibility, width_stage}
use Rattle.pv_opening.specs.Returns.{TakesCourse}
use Rattle.pv_opening.specs.Stage.{Behind, Responds, short_of_memory}
use Rattle.pv_opening.specs.declared.response.Response.{Response}
use Rattle.pv_opening.specs.declared.stop.Stop.{Stop}
use Rattle.pv_opening.proofs.JudgedLists.{stops_within}
use Rattle.pv_opening.proofs.Stages.{found_behind, stop_found, tells_found}
use Rattle.pv_commands.proofs.check.tell.Goals as goal

abbrev Checks : List ℕ → PlainDtd → PlainDoc Mark → Result Response Stop → Type 0
Checks root g doc =
    TakesCourse (Behind (width_stage g doc) (λ _. Responds (TellsPossibility root g doc)))

-- an answer on the arguments is one on the opened files, which equal them
checks_as : (root : List ℕ) (g d : PlainDtd) (doc same : PlainDoc Mark)
    (result : Result Response Stop) → d ≡ g → same ≡ doc → Checks root g doc result →
    Checks root d same result
checks_as root g d doc same result is are checks =
    subst (λ (h : PlainDtd). Checks root h same result) (sym is)
    (subst (λ (s : PlainDoc Mark). Checks root g s result) (sym are) checks)

pub returns-in_err-verdicts-clause-tells : goal.returns-in_err-verdicts-clause-tells
returns-in_err-verdicts-clause-tells g c = λ opened is are.
    let d = dtd_of c.args.judge.now in
    let doc = plain_doc c.args.doc.now in
    let root = c.args.root.now in
    let stop = c.in_err-verdicts.field-0.0 in
    let p = err_from_is_err_and c.from_residual.result c.from_residual.ensures.1 in
    rw (p.1, p.2) (checks_as root d opened.dtd doc opened.doc (Err stop) is are
    (stop_found (width_stage d doc) (λ _. Responds (TellsPossibility root d doc)) stop
    (λ never. never) c.in_err-verdicts.ensures.denied))

pub returns-clause-tells : goal.returns-clause-tells
returns-clause-tells g c = λ opened is are.
    let d = dtd_of c.args.judge.now in
    let doc = plain_doc c.args.doc.now in
    let root = c.args.root.now in
    let has = c.in_ok-verdicts.ensures.has in
    let result : Result Response Stop = Ok c.in_ok-check_line.field-0 in
    let finds = found_behind (width_stage d doc) (λ _. Responds (TellsPossibility root d doc)) tt
    result (has.narrow, refl)
    (tells_found (TellsPossibility root d doc) result
    (c.in_ok-check_line.ensures root d doc has)) in
    checks_as root d opened.dtd doc opened.doc result is are finds

pub returns-in_err-check_line-clause-tells : goal.returns-in_err-check_line-clause-tells
returns-in_err-check_line-clause-tells g c = λ opened is are.
    let p = err_from_is_err_and c.from_residual-in_err-check_line.result
    c.from_residual-in_err-check_line.ensures.1 in
    rw (p.1, p.2) (short_of_memory 0 refl refl)

pub returns-in_err-verdicts-clause-counts : goal.returns-in_err-verdicts-clause-counts
returns-in_err-verdicts-clause-counts g c =
    let stop = c.in_err-verdicts.field-0.0 in
    let p = err_from_is_err_and c.from_residual.result c.from_residual.ensures.1 in
    rw (p.1, p.2)
    (judges_none
    (stops_within (width_stage (dtd_of c.args.judge.now) (plain_doc c.args.doc.now)) 0 stop
    c.in_err-verdicts.ensures.denied) c.in_err-verdicts.ensures.unjudged)

pub returns-clause-counts : goal.returns-clause-counts
returns-clause-counts g c =
    judges_all tt 0 (c.in_ok-verdicts.ensures.has.narrow, refl) c.in_ok-verdicts.ensures.judged

pub returns-in_err-check_line-clause-counts : goal.returns-in_err-check_line-clause-counts
returns-in_err-check_line-clause-counts g c =
    judges_all tt 0 (c.in_ok-verdicts.ensures.has.narrow, refl) c.in_ok-verdicts.ensures.judged
