use Rattle.std.proofs.Common.{ap, length, List, subst, ℕ, ◌∙◌, ◌≤◌}
use Rattle.std.proofs.lemmas.Result.{err_from_is_err_and}
use Rattle.pv_edit.specs.BroughtElements.{lists_changed}
use Rattle.pv_edit.specs.Changes.{Change, root_after}
use Rattle.pv_edit.specs.FittingChanges.{plain_task}
use Rattle.pv_tree.specs.Plain.{nodes_in}
use Rattle.pv_tree.specs.PlainDocs.{plain_doc}
use Rattle.pv_tree.specs.declared.nodes.Mark.{Mark}
use Rattle.pv_cache.specs.AcceptedEdits.{MAX_EDITED_NODES}
use Rattle.pv_cache.specs.JudgedMoves.{CountsRefused}
use Rattle.pv_cache.proofs.StampMoves.{edit_accepted, edit_refused, same_lists}
use Rattle.pv_cache.proofs.well_marked.WellMarked.judge_prepared.Goals as goal

pub returns-in_err-verdicts-clause-refused : goal.returns-in_err-verdicts-clause-refused
returns-in_err-verdicts-clause-refused g c =
    let d = c.args.self.now.grammar in
    let old = plain_doc c.args.self.now.doc in
    let ready = c.requires in
    let few =
    subst (λ (ch : Change Mark). nodes_in (root_after ch.list ch old.root) ≤ MAX_EDITED_NODES)
    ready.prepared.change ready.task.few in
    let p =
    err_from_is_err_and c.from_residual.result
    c.from_residual.ensures.1 in
    rw (p.1, p.2)
    (edit_refused d c.args.self.now.root old c.args._edit.now ready.given
    c.changed_lists_law.ensures.made few c.args.self.now.marked (plain_task c.args.ready.task)
    ready.prepared.change (ready.task.can, ready.task.unshort, ready.task.bare)
    c.in_err-verdicts.field-0.0 c.in_err-verdicts.ensures.refused)

pub returns-clause-accepted : goal.returns-clause-accepted
returns-clause-accepted g c =
    let d = c.args.self.now.grammar in
    let old = plain_doc c.args.self.now.doc in
    let ready = c.requires in
    let few =
    subst (λ (ch : Change Mark). nodes_in (root_after ch.list ch old.root) ≤ MAX_EDITED_NODES)
    ready.prepared.change ready.task.few in
    let vs = c.in_ok-verdicts.verdicts in
    edit_accepted d c.args.self.now.root old c.args._edit.now ready.given
    c.changed_lists_law.ensures.made few c.args.self.now.marked (plain_task c.args.ready.task)
    ready.prepared.change (ready.task.can, ready.task.unshort, ready.task.bare) vs.outer vs.inner
    c.in_ok-verdicts.ensures.judged c.in_ok-verdicts.ensures.no_more

pub returns-clause-ready : goal.returns-clause-ready
returns-clause-ready g c =
    let ready = c.requires in
    record {
      given = ready.given;
      prepared = ready.prepared;
      task = ready.task;
      judged = c.in_ok-verdicts.ensures.judged;
      no_more = c.in_ok-verdicts.ensures.no_more;
      tokens = c.in_ok-verdicts.ensures.tokens;
    }

pub returns-in_err-verdicts-clause-each : goal.returns-in_err-verdicts-clause-each
returns-in_err-verdicts-clause-each g c =
    let p = err_from_is_err_and c.from_residual.result c.from_residual.ensures.1 in
    let lists =
    ap lists_changed c.requires.prepared.change
    ∙ same_lists c.args.self.now.grammar c.args.self.now.root (plain_doc c.args.self.now.doc)
    c.args._edit.now c.requires.given c.changed_lists_law.ensures.made in
    rw (p.1, p.2)
    (subst (λ (paths : List (List ℕ)).
    CountsRefused (length paths) c.args.steps.now c.judge_change.new.steps
    c.in_err-verdicts.field-0.0) lists c.in_err-verdicts.ensures.each)
