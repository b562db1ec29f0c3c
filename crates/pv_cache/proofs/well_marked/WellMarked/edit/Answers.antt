use Rattle.std.proofs.Common.{ap, length, subst}
use Rattle.std.specs.Prelude.{IfErr, IfOk, OnErr, ◌≡◌}
use Rattle.pv_cache.specs.Moves.{HasGround, IsEdited}
use Rattle.pv_cache.specs.PlainForms.{stamped_doc}
use Rattle.pv_cache.specs.PlainMarked.{PlainMarked}
use Rattle.pv_cache.specs.Stamps.{StampedDoc, stamped_doc_of}
use Rattle.pv_edit.specs.ChangedLists.{changed_lists, makes}
use Rattle.std.proofs.lemmas.Result.{err_from_is_err_and}
use Rattle.pv_cache.proofs.well_marked.WellMarked.edit.Goals as goal

-- the document with its stamps
abbrev stamped : PlainMarked → StampedDoc
stamped m = stamped_doc_of m.dtd m.root m.doc

pub returns-clause-edited : goal.returns-clause-edited
returns-clause-edited g c =
    subst (λ (s : StampedDoc).
    IfOk c.edit_prepared.result (λ made.
    IsEdited s c.args.edit.now c.args.stamp made.0 made.1
    (stamped_doc c.edit_prepared.new.self))) (ap stamped c.in_ok-ready.ensures.same)
    c.edit_prepared.ensures.edited

pub returns-clause-refused : goal.returns-clause-refused
returns-clause-refused g c =
    subst (λ (s : StampedDoc).
    IfErr c.edit_prepared.result (HasGround 0 s.dtd s.root s.doc c.args.edit.now))
    (ap stamped c.in_ok-ready.ensures.same) c.edit_prepared.ensures.refused

pub returns-clause-unchanged : goal.returns-clause-unchanged
returns-clause-unchanged g c =
    subst (λ (s : StampedDoc).
    OnErr c.edit_prepared.result (stamped_doc c.edit_prepared.new.self ≡ s))
    (ap stamped c.in_ok-ready.ensures.same) c.edit_prepared.ensures.unchanged

pub returns-in_err-ready-clause-each : goal.returns-in_err-ready-clause-each
returns-in_err-ready-clause-each g c =
    let p = err_from_is_err_and c.from_residual.result c.from_residual.ensures.1 in
    rw (p.1, p.2)
    (c.in_err-ready.ensures.none (length (changed_lists (makes c.args.edit.now))) c.args.steps.now)
