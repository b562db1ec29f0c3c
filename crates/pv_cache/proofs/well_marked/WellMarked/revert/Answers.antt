use Rattle.std.proofs.Common.{◌≡◌, refl, subst, sym}
use Rattle.pv_cache.specs.Moves.{IsReverted}
use Rattle.pv_cache.specs.Stamps.{StampedDoc, stamped_doc_of}
use Rattle.pv_cache.specs.WellMarked.{IsWellMarked}
use Rattle.pv_edit.specs.FittingChanges.{plain_task}
use Rattle.pv_tree.specs.PlainDocs.{plain_doc}
use Rattle.pv_cache.proofs.StampMoves.{back_few, back_made, back_narrow, same_ground, stamped_ground}
use Rattle.pv_cache.proofs.well_marked.WellMarked.revert.Goals as goal

pub judge_back-requires-clause-task : goal.judge_back-requires-clause-task
judge_back-requires-clause-task g c =
    let d = c.args.self.now.grammar in
    let old = plain_doc c.args.self.now.doc in
    let t = c.in_ok-task.task in
    let l = c.requires in
    record {
      can = c.in_ok-task.ensures.can;
      unshort = c.in_ok-task.ensures.unshort;
      bare = c.in_ok-task.ensures.bare;
      kept = c.in_ok-task.ensures.kept;
      few =
          back_few d c.args.self.now.root old c.args.inverse.now l.0 l.1 c.leads_back_law.ensures
          (plain_task t) c.in_ok-task.ensures.task l.2;
    }

pub judge_back-requires-clause-narrow : goal.judge_back-requires-clause-narrow
judge_back-requires-clause-narrow g c =
    let d = c.args.self.now.grammar in
    let old = plain_doc c.args.self.now.doc in
    let t = c.in_ok-task.task in
    let l = c.requires in
    back_narrow d c.args.self.now.root old c.args.inverse.now l.0 l.1 c.leads_back_law.ensures
    (plain_task t) c.in_ok-task.ensures.task l.2 c.in_ok-task.ensures.can
    c.in_ok-task.ensures.unshort c.in_ok-task.ensures.bare

pub make_judged-requires-clause-task : goal.make_judged-requires-clause-task
make_judged-requires-clause-task g c =
    let d = c.args.self.now.grammar in
    let old = plain_doc c.args.self.now.doc in
    let t = c.in_ok-task.task in
    let l = c.requires in
    record {
      can = c.in_ok-task.ensures.can;
      unshort = c.in_ok-task.ensures.unshort;
      bare = c.in_ok-task.ensures.bare;
      kept = c.in_ok-task.ensures.kept;
      few =
          back_few d c.args.self.now.root old c.args.inverse.now l.0 l.1 c.leads_back_law.ensures
          (plain_task t) c.in_ok-task.ensures.task l.2;
    }

pub returns-clause-reverted : goal.returns-clause-reverted
returns-clause-reverted g c = λ before l.
    let d = c.args.self.now.grammar in
    let root = c.args.self.now.root in
    let old = plain_doc c.args.self.now.doc in
    let t = c.in_ok-task.task in
    let new = plain_doc c.make_judged.new.self.doc in
    let changed = c.in_ok-checked.ensures.changed in
    let marked : ∥ IsWellMarked d root new ∥₁ =
    same_ground c.make_judged.new.self.grammar d c.make_judged.new.self.root root new
    changed.same_dtd changed.same_root c.make_judged.new.self.marked in
    let back =
    back_made d root old c.args.inverse.now before l c.leads_back_law.ensures
    (plain_task t) c.in_ok-task.ensures.task c.changed_lists_law.ensures.undone c.args.stamp new
    marked changed.made changed.stamps
    (record {
      checked = c.in_ok-checked.checked;
      left = new.mark.left;
      bad = c.make_judged.new.self.bad;
    }) changed.counted refl c.make_judged.new.self.counted in
    let is : stamped_doc_of c.make_judged.new.self.grammar c.make_judged.new.self.root new
    ≡ stamped_doc_of d root new = stamped_ground new changed.same_dtd changed.same_root in
    subst (λ (s : StampedDoc).
    IsReverted (stamped_doc_of d root old) c.args.inverse.now l.edit before c.args.stamp
    (record {
      checked = c.in_ok-checked.checked;
      left = new.mark.left;
      bad = c.make_judged.new.self.bad;
    }) s) (sym is) back
