use Rattle.std.proofs.Common.{◌∙◌, ap, length, refl, subst, sym}
use Rattle.std.proofs.lemmas.Result.{err_from_is_err_and}
use Rattle.pv_productive.specs.PlainForms.{dtd_of}
use Rattle.pv_dtd.specs.Plain.{PlainDtd}
use Rattle.pv_tree.specs.Lists.{lists_of}
use Rattle.pv_tree.specs.PlainDocs.{plain_doc}
use Rattle.pv_opening.specs.JudgedCounts.{CountsJudged, CountsNoMore, judges_none, without_memory}
use Rattle.pv_opening.specs.Possibility.{width_stage}
use Rattle.pv_opening.specs.Returns.{ending_of}
use Rattle.pv_opening.specs.Stage.{short_of_memory}
use Rattle.pv_commands.proofs.why.tell_by.Goals as goal

pub returns-in_err-plan-clause-tells : goal.returns-in_err-plan-clause-tells
returns-in_err-plan-clause-tells g c = λ opened is are.
    let p = err_from_is_err_and c.from_residual.result c.from_residual.ensures.1 in
    rw (p.1, p.2) (short_of_memory 0 refl refl)

pub returns-in_err-plan-clause-counts : goal.returns-in_err-plan-clause-counts
returns-in_err-plan-clause-counts g c =
    let p = err_from_is_err_and c.from_residual.result c.from_residual.ensures.1 in
    rw (p.1, p.2) (judges_none (without_memory refl) refl)

pub returns-clause-tells : goal.returns-clause-tells
returns-clause-tells g c = λ opened is are.
    c.tell.ensures.tells opened (is ∙ sym (ap dtd_of c.new-judge.ensures)) are

pub returns-clause-counts : goal.returns-clause-counts
returns-clause-counts g c =
    let doc = plain_doc c.args.doc.now in
    subst (λ (d : PlainDtd).
    CountsJudged (width_stage d doc) (λ _. length (lists_of doc)) CountsNoMore
    (ending_of c.tell.result) c.args.steps.now c.tell.new.steps) (ap dtd_of c.new-judge.ensures)
    c.tell.ensures.counts
