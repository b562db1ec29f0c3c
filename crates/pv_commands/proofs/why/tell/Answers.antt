use Rattle.std.proofs.Common.{◌≡◌, ◌∙◌, Err, List, None, Result, Ok, Some, ap, refl, sym, subst, ℕ}
use Rattle.std.proofs.lemmas.Result.{err_from_is_err_and}
use Rattle.std.specs.Option.{option_copied}
use Rattle.std.specs.Prelude.{IsNone}
use Rattle.pv_dtd.specs.Plain.{PlainDtd}
use Rattle.pv_missing.specs.Verdicts.{PlainVerdicts}
use Rattle.pv_productive.specs.PlainForms.{dtd_of}
use Rattle.pv_tree.specs.Plain.{PlainDoc}
use Rattle.pv_tree.specs.PlainDocs.{plain_doc}
use Rattle.pv_tree.specs.declared.nodes.Mark.{Mark}
use Rattle.pv_opening.specs.JudgedCounts.{judges_all, judges_none}
use Rattle.pv_opening.specs.Possibility.{AreVerdictsOf, width_stage}
use Rattle.pv_opening.specs.Returns.{TakesCourse, TellsBy}
use Rattle.pv_opening.specs.Stage.{Behind, Responds, short_of_memory}
use Rattle.pv_commands.specs.Why.{TellsWhy, is_possible}
use Rattle.pv_opening.specs.declared.response.Response.{Response}
use Rattle.pv_opening.specs.declared.stop.Stop.{Stop}
use Rattle.pv_opening.proofs.JudgedLists.{stops_within}
use Rattle.pv_opening.proofs.Possibilities.{impossible_at}
use Rattle.pv_opening.proofs.Stages.{found_behind, stop_found, tells_found}
use Rattle.pv_commands.proofs.why.tell.Goals as goal

abbrev Explains : List ℕ → PlainDtd → PlainDoc Mark → Result Response Stop → Type 0
Explains root g doc = TakesCourse (Behind (width_stage g doc) (λ _. Responds (TellsWhy root g doc)))

-- an answer on the arguments is one on the opened files, which equal them
explains_as : (root : List ℕ) (g d : PlainDtd) (doc same : PlainDoc Mark)
    (result : Result Response Stop) → d ≡ g → same ≡ doc → Explains root g doc result →
    Explains root d same result
explains_as root g d doc same result is are explains =
    subst (λ (h : PlainDtd). Explains root h same result) (sym is)
    (subst (λ (s : PlainDoc Mark). Explains root g s result) (sym are) explains)

-- what was told after the test of the width
told_behind : (root : List ℕ) (g : PlainDtd) (doc : PlainDoc Mark) (vs : PlainVerdicts)
    (result : Result Response Stop) → AreVerdictsOf root g doc vs →
    TellsBy (TellsWhy root g doc) result → Explains root g doc result
told_behind root g doc vs result has tells =
    found_behind (width_stage g doc) (λ _. Responds (TellsWhy root g doc)) tt result
    (has.narrow, refl) (tells_found (TellsWhy root g doc) result tells)

pub returns-in_err-verdicts-clause-tells : goal.returns-in_err-verdicts-clause-tells
returns-in_err-verdicts-clause-tells g c = λ opened is are.
    let d = dtd_of c.args.judge.now in
    let doc = plain_doc c.args.doc.now in
    let root = c.args.root.now in
    let p = err_from_is_err_and c.from_residual.result c.from_residual.ensures.1 in
    rw (p.1, p.2)
    (explains_as root d opened.dtd doc opened.doc (Err c.in_err-verdicts.field-0.0) is are
    (stop_found (width_stage d doc) (λ _. Responds (TellsWhy root d doc))
    c.in_err-verdicts.field-0.0 (λ never. never) c.in_err-verdicts.ensures.denied))

pub explain-requires : goal.explain-requires
explain-requires g c =
    let first : c.in_ok-verdicts.verdicts.first ≡ Some c.in-Some.path.now =
    sym c.first_impossible.ensures ∙ ap option_copied c.in-Some.is in
    impossible_at c.args.root.now (dtd_of c.args.judge.now) (plain_doc c.args.doc.now)
    c.in_ok-verdicts.verdicts c.in-Some.path.now first c.in_ok-verdicts.ensures.has

pub returns-in-Some-clause-tells : goal.returns-in-Some-clause-tells
returns-in-Some-clause-tells g c = λ opened is are.
    let d = dtd_of c.args.judge.now in
    let doc = plain_doc c.args.doc.now in
    let root = c.args.root.now in
    explains_as root d opened.dtd doc opened.doc c.explain.result is are
    (told_behind root d doc c.in_ok-verdicts.verdicts c.explain.result c.in_ok-verdicts.ensures.has
    c.explain.ensures)

pub returns-clause-tells : goal.returns-clause-tells
returns-clause-tells g c = λ opened is are.
    let d = dtd_of c.args.judge.now in
    let doc = plain_doc c.args.doc.now in
    let root = c.args.root.now in
    let has = c.in_ok-verdicts.ensures.has in
    let first : c.in_ok-verdicts.verdicts.first ≡ None =
    sym c.first_impossible.ensures ∙ ap option_copied c.in-None.is in
    let none : IsNone c.in_ok-verdicts.verdicts.first = rw first refl in
    let result : Result Response Stop = Ok c.in_ok-with_line-in-None.field-0 in
    explains_as root d opened.dtd doc opened.doc result is are
    (told_behind root d doc c.in_ok-verdicts.verdicts result has
    (is_possible (has.possible.0 none) c.in_ok-with_line-in-None.ensures))

pub returns-in_err-with_line-in-None-clause-tells :
    goal.returns-in_err-with_line-in-None-clause-tells
returns-in_err-with_line-in-None-clause-tells g c = λ opened is are.
    let p = err_from_is_err_and c.from_residual-in_err-with_line-in-None.result
    c.from_residual-in_err-with_line-in-None.ensures.1 in
    rw (p.1, p.2) (short_of_memory 0 refl refl)

pub returns-in_err-verdicts-clause-counts : goal.returns-in_err-verdicts-clause-counts
returns-in_err-verdicts-clause-counts g c =
    let stop = c.in_err-verdicts.field-0.0 in
    let p = err_from_is_err_and c.from_residual.result c.from_residual.ensures.1 in
    rw (p.1, p.2)
    (judges_none
    (stops_within (width_stage (dtd_of c.args.judge.now) (plain_doc c.args.doc.now)) 0 stop
    c.in_err-verdicts.ensures.denied) c.in_err-verdicts.ensures.unjudged)

pub returns-in-Some-clause-counts : goal.returns-in-Some-clause-counts
returns-in-Some-clause-counts g c =
    judges_all tt 0 (c.in_ok-verdicts.ensures.has.narrow, refl) c.in_ok-verdicts.ensures.judged

pub returns-clause-counts : goal.returns-clause-counts
returns-clause-counts g c =
    judges_all tt 0 (c.in_ok-verdicts.ensures.has.narrow, refl) c.in_ok-verdicts.ensures.judged

pub returns-in_err-with_line-in-None-clause-counts :
    goal.returns-in_err-with_line-in-None-clause-counts
returns-in_err-with_line-in-None-clause-counts g c =
    judges_all tt 0 (c.in_ok-verdicts.ensures.has.narrow, refl) c.in_ok-verdicts.ensures.judged
