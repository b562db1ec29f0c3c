use Rattle.std.proofs.Common.{◌≡◌, refl, subst, sym}
use Rattle.pv_cache.specs.Moves.{IsEdited}
use Rattle.pv_cache.specs.Stamps.{StampedDoc, stamped_doc_of}
use Rattle.pv_cache.specs.WellMarked.{IsWellMarked}
use Rattle.pv_edit.specs.FittingChanges.{plain_task}
use Rattle.pv_tree.specs.PlainDocs.{plain_doc}
use Rattle.pv_cache.proofs.StampMoves.{edit_made, same_ground, stamped_ground}
use Rattle.pv_cache.proofs.well_marked.WellMarked.edit_prepared.Goals as goal

pub returns-clause-edited : goal.returns-clause-edited
returns-clause-edited g c =
    let d = c.args.self.now.grammar in
    let root = c.args.self.now.root in
    let old = plain_doc c.args.self.now.doc in
    let edit = c.args.edit.now in
    let j = c.in_ok-judged in
    let ready = j.ensures.ready in
    let new = plain_doc c.make_judged.new.self.doc in
    let changed = c.in_ok-checked.ensures.changed in
    let marked : ∥ IsWellMarked d root new ∥₁ =
    same_ground c.make_judged.new.self.grammar d c.make_judged.new.self.root root new
    changed.same_dtd changed.same_root c.make_judged.new.self.marked in
    let made =
    edit_made d root old edit ready.given c.changed_lists_law.ensures.made j.ensures.accepted
    (plain_task j.judged.task) ready.prepared.change new marked c.args.stamp changed.stamps
    (record {
      checked = c.in_ok-checked.checked;
      left = new.mark.left;
      bad =
          c.make_judged.new.self.bad;
    }) changed.counted refl c.make_judged.new.self.counted
    j.judged.inverse ready.prepared.inverse in
    let is : stamped_doc_of c.make_judged.new.self.grammar c.make_judged.new.self.root new
    ≡ stamped_doc_of d root new = stamped_ground new changed.same_dtd changed.same_root in
    subst (λ (s : StampedDoc).
    IsEdited (stamped_doc_of d root old) edit c.args.stamp
    (record {
      checked = c.in_ok-checked.checked;
      left = new.mark.left;
      bad = c.make_judged.new.self.bad;
    }) j.judged.inverse s) (sym is) made
