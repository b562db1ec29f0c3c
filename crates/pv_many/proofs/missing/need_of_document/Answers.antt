use Rattle.std.proofs.Common.{◌≡◌, ℕ, List, Result, Err, refl, sym, subst}
use Rattle.std.proofs.lemmas.Result.{err_from_is_err_and}
use Rattle.pv_dtd.specs.Plain.{PlainDtd}
use Rattle.pv_productive.specs.PlainForms.{dtd_of}
use Rattle.pv_tree.specs.Plain.{PlainDoc}
use Rattle.pv_tree.specs.PlainDocs.{plain_doc}
use Rattle.pv_tree.specs.declared.nodes.Mark.{Mark}
use Rattle.pv_opening.specs.Possibility.{width_stage}
use Rattle.pv_opening.specs.Returns.{TakesCourse}
use Rattle.pv_opening.specs.Stage.{Behind, Responds}
use Rattle.pv_opening.specs.declared.response.Response.{Response}
use Rattle.pv_opening.specs.declared.stop.Stop.{Stop}
use Rattle.pv_opening.proofs.Stages.{found_behind, stop_found, tells_found}
use Rattle.pv_many.specs.MissingAnswers.{TellsMissing}
use Rattle.pv_many.proofs.missing.need_of_document.Goals as goal

abbrev Counts : List ℕ → PlainDtd → PlainDoc Mark → Result Response Stop → Type 0
Counts root g doc =
    TakesCourse (Behind (width_stage g doc) (λ _. Responds (TellsMissing root g doc)))

-- an answer on the arguments is one on the opened files, which equal them
counts_as : (root : List ℕ) (g d : PlainDtd) (doc same : PlainDoc Mark)
    (result : Result Response Stop) → d ≡ g → same ≡ doc → Counts root g doc result →
    Counts root d same result
counts_as root g d doc same result is are counts =
    subst (λ (h : PlainDtd). Counts root h same result) (sym is)
    (subst (λ (s : PlainDoc Mark). Counts root g s result) (sym are) counts)

pub returns-in_err-verdicts-clause-takes : goal.returns-in_err-verdicts-clause-takes
returns-in_err-verdicts-clause-takes g c = λ opened is are.
    let d = dtd_of c.args.judge.now in
    let doc = plain_doc c.args.doc.now in
    let root = c.args.root.now in
    let stop = c.in_err-verdicts.field-0.0 in
    let p = err_from_is_err_and c.from_residual.result c.from_residual.ensures.1 in
    rw (p.1, p.2) (counts_as root d opened.dtd doc opened.doc (Err stop) is are
    (stop_found (width_stage d doc) (λ _. Responds (TellsMissing root d doc)) stop
    (λ never. never) c.in_err-verdicts.ensures.denied))

pub returns-clause-takes : goal.returns-clause-takes
returns-clause-takes g c = λ opened is are.
    let d = dtd_of c.args.judge.now in
    let doc = plain_doc c.args.doc.now in
    let root = c.args.root.now in
    let has = c.in_ok-verdicts.ensures.has in
    counts_as root d opened.dtd doc opened.doc c.need_line.result is are
    (found_behind (width_stage d doc) (λ _. Responds (TellsMissing root d doc)) tt
    c.need_line.result
    (has.narrow, refl)
    (tells_found (TellsMissing root d doc) c.need_line.result (c.need_line.ensures.tells has)))
