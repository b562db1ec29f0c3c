use Rattle.std.proofs.Common.{◌≡◌, ◌∙◌, ap, subst, sym}
use Rattle.std.specs.Prelude.{IfOk}
use Rattle.pv_edit.specs.Inverses.{LeadsBack}
use Rattle.pv_edit.specs.Reasons.{gives}
use Rattle.pv_tree.specs.Marks.{unmarked_doc}
use Rattle.pv_tree.specs.PlainDocs.{plain_doc}
use Rattle.pv_cache.specs.AcceptedEdits.{IsHoldable}
use Rattle.pv_cache.specs.Moves.{IsReverted}
use Rattle.pv_cache.specs.PlainForms.{stamped_doc}
use Rattle.pv_cache.specs.Stamps.{StampedDoc, stamp_of}
use Rattle.pv_cache.proofs.RemarkedDocuments.{unmarked_as}
use Rattle.pv_cache.proofs.StampMoves.{leads_from}
use Rattle.pv_cache.proofs.marked.Marked.revert.Goals as goal

pub revert-requires : goal.revert-requires
revert-requires g c =
    let m = c.self.inside.document in
    let l = c.requires in
    let leads =
    subst (λ (s : StampedDoc). LeadsBack c.args.inverse.now s.doc l.0) (sym c.self.view_is) l.1 in
    let holdable = subst (λ (s : StampedDoc). IsHoldable s.dtd l.0) (sym c.self.view_is) l.2 in
    (l.0, leads_from stamp_of (plain_doc m.doc) c.args.inverse.now l.0 leads, holdable)

pub returns-clause-reverted : goal.returns-clause-reverted
returns-clause-reverted g c = λ before back.
    let doc = plain_doc c.self.inside.document.doc in
    let same : unmarked_doc c.args.self.now.doc ≡ unmarked_doc doc =
    ap (λ (s : StampedDoc). unmarked_doc s.doc) (sym c.self.view_is) ∙ unmarked_as stamp_of doc in
    let mine : LeadsBack c.args.inverse.now doc before =
    record {
      edit = back.edit;
      kept = back.kept;
      is_edited = back.is_edited ∙ ap gives same;
      is_inverse = back.is_inverse;
    } in
    subst (λ (s : StampedDoc).
    IfOk c.revert.result (λ done.
    IsReverted s c.args.inverse.now back.edit before c.args.stamp done
    (stamped_doc c.revert.new.self))) c.self.view_is
    (c.revert.ensures.reverted before mine)
