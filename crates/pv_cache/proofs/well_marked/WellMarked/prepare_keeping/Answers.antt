use Rattle.std.proofs.Common.{subst, sym}
use Rattle.std.specs.Prelude.{None, ◌≡◌}
use Rattle.pv_edit.specs.Preparations.{IsPreparation}
use Rattle.pv_edit.specs.Reasons.{reason_of}
use Rattle.pv_tree.specs.Marks.{blank_mark}
use Rattle.pv_cache.specs.MarkedTasks.{IsTaskFor}
use Rattle.pv_cache.specs.PlainMarked.{PlainMarked}
use Rattle.pv_cache.proofs.well_marked.WellMarked.prepare_keeping.Goals as goal

pub returns-clause-given : goal.returns-clause-given
returns-clause-given c =
    subst (λ (m : PlainMarked). reason_of blank_mark m.doc.root c.args.edit.now ≡ None)
    (sym c.keep_tried.ensures) c.in_ok-ready.ensures.given

pub returns-clause-prepared : goal.returns-clause-prepared
returns-clause-prepared c =
    subst (λ (m : PlainMarked). IsPreparation m.doc.root c.args.edit.now c.in_ok-ready.ready)
    (sym c.keep_tried.ensures) c.in_ok-ready.ensures.prepared

pub returns-clause-task : goal.returns-clause-task
returns-clause-task c =
    subst (λ (m : PlainMarked). IsTaskFor m.doc c.in_ok-ready.ready.task)
    (sym c.keep_tried.ensures) c.in_ok-ready.ensures.task
