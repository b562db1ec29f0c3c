use Rattle.std.proofs.Common.{ℕ, List, refl, sym}
use Rattle.std.proofs.lemmas.Result.{err_from_is_err_and}
use Rattle.pv_dtd.specs.Plain.{PlainDtd}
use Rattle.pv_dtd.specs.PlainForms.{plain_dtd}
use Rattle.pv_tree.specs.Plain.{PlainDoc}
use Rattle.pv_tree.specs.PlainDocs.{plain_doc}
use Rattle.pv_tree.specs.declared.nodes.Mark.{Mark}
use Rattle.pv_opening.specs.Course.{Course}
use Rattle.pv_opening.specs.JudgedCounts.{CountsNoMore, judges_none, without_memory}
use Rattle.pv_opening.specs.Possibility.{width_stage}
use Rattle.pv_opening.specs.Stage.{beside, short_of_memory}
use Rattle.pv_commands.specs.Standoff.{IsShownCourse, nested_lists, nesting_stage}
use Rattle.pv_commands.proofs.Annotations.{nested_counts}
use Rattle.pv_opening.proofs.JudgedLists.{stops_first}
use Rattle.pv_opening.proofs.Stages.{found_behind, stop_found, stopped_beside}
use Rattle.pv_commands.proofs.standoff.tell.Goals as goal

abbrev Shows : List ℕ → PlainDtd × PlainDoc Mark → Course → Type 0
Shows root nested = IsShownCourse root nested.0 nested.1

pub returns-in_err-doc-clause-finds : goal.returns-in_err-doc-clause-finds
returns-in_err-doc-clause-finds g c =
    let dtd = plain_dtd c.args.dtd in
    let stage = nesting_stage c.args.root.now c.args.text.now c.args.ranges.now in
    let stop = c.in_err-doc.field-0.0 in
    let p = err_from_is_err_and c.from_residual.result c.from_residual.ensures.1 in
    rw (p.1, p.2)
    (stop_found (beside dtd stage) (Shows c.args.root.now) stop (λ never. never)
    (stopped_beside dtd stage 0 stop c.in_err-doc.ensures))

pub returns-in_err-grammar-clause-finds : goal.returns-in_err-grammar-clause-finds
returns-in_err-grammar-clause-finds g c =
    let p = err_from_is_err_and c.from_residual-in_err-grammar.result
    c.from_residual-in_err-grammar.ensures.1 in
    rw (p.1, p.2) (short_of_memory 0 refl refl)

pub returns-clause-finds : goal.returns-clause-finds
returns-clause-finds g c =
    let dtd = plain_dtd c.args.dtd in
    let stage = nesting_stage c.args.root.now c.args.text.now c.args.ranges.now in
    found_behind (beside dtd stage) (Shows c.args.root.now) (dtd, plain_doc c.in_ok-doc.doc)
    c.show-response.result (refl, c.in_ok-doc.ensures)
    (c.show-response.ensures.tells dtd (sym c.in_ok-grammar.ensures))

pub returns-in_err-doc-clause-counts : goal.returns-in_err-doc-clause-counts
returns-in_err-doc-clause-counts g c =
    let dtd = plain_dtd c.args.dtd in
    let stage = nesting_stage c.args.root.now c.args.text.now c.args.ranges.now in
    let stop = c.in_err-doc.field-0.0 in
    let p = err_from_is_err_and c.from_residual.result c.from_residual.ensures.1 in
    rw (p.1, p.2)
    (stops_first (beside dtd stage) (λ nested. beside nested (width_stage nested.0 nested.1))
    nested_lists CountsNoMore 0 stop _ _ (stopped_beside dtd stage 0 stop c.in_err-doc.ensures)
    refl)

pub returns-in_err-grammar-clause-counts : goal.returns-in_err-grammar-clause-counts
returns-in_err-grammar-clause-counts g c =
    let p = err_from_is_err_and c.from_residual-in_err-grammar.result
    c.from_residual-in_err-grammar.ensures.1 in
    rw (p.1, p.2) (judges_none (without_memory refl) refl)

pub returns-clause-counts : goal.returns-clause-counts
returns-clause-counts g c =
    nested_counts c.args.root.now (plain_dtd c.args.dtd) _ c.args.text.now c.args.ranges.now
    (plain_doc c.in_ok-doc.doc) _ _ _ c.in_ok-doc.ensures c.in_ok-grammar.ensures
    c.show-response.ensures.counts
