-- Edits of a document with stamps, and taking them back.
use Rattle.std.specs.Prelude.{◌≡◌, List, length, ℕ}
use Rattle.pv_cache.specs.AcceptedEdits.{GetsWorse, IsAccepted, IsWithinLimits}
use Rattle.pv_cache.specs.VerdictsAfterChange.{IsFirstImpossibleAt}
use Rattle.pv_cache.specs.Stamps.{StampedDoc, stamp_lists}
use Rattle.pv_dtd.specs.Plain.{PlainDtd}
use Rattle.pv_edit.specs.ChangedLists.{changed_lists, makes, undoes}
use Rattle.pv_edit.specs.Inverses.{inverse_of, doc_back}
use Rattle.pv_edit.specs.Reasons.{edit_outcome, gives, refuses}
use Rattle.pv_edit.specs.declared.answers.Done.{Done}
use Rattle.pv_edit.specs.declared.answers.EditAnswer.{EditAnswer}
use Rattle.pv_edit.specs.declared.answers.EditAnswer.TheVariants.{Impossible, Limit, NoMemory}
use Rattle.pv_edit.specs.declared.answers.EditAnswer.TheVariants.{Shape}
use Rattle.pv_edit.specs.declared.edits.Edit.{Edit}
use Rattle.pv_edit.specs.declared.inverses.Inverse.{Inverse}
use Rattle.pv_missing.specs.Verdicts.{HaveImpossible, HavePossible}
use Rattle.pv_tree.specs.Lists.{lists_of}
use Rattle.pv_tree.specs.Marks.{unmarked_doc}
use Rattle.pv_tree.specs.Plain.{PlainDoc}

-- so many lists of a document are Possible
abbrev pub HasOpen : StampedDoc → ℕ → Type 0
HasOpen s left = ∥ HavePossible s.dtd s.root (lists_of s.doc) left ∥₁

-- so many lists of a document are Impossible
abbrev pub HasBad : StampedDoc → ℕ → Type 0
HasBad s bad = ∥ HaveImpossible s.dtd s.root (lists_of s.doc) bad ∥₁

-- An edit is made: it is accepted, the lists that it changed have this stamp, and each other list
-- keeps its own. So many lists were changed, so many are Possible now, and so many Impossible; and
-- this undoes the edit.
pub record IsEdited (before : StampedDoc) (edit : Edit) (stamp : ℕ) (done : Done)
    (inverse : Inverse) (after : StampedDoc) : Type 0 where
  pub edited : PlainDoc ℕ
  pub accepted : IsAccepted 0 before.dtd before.root before.doc edit edited
  pub is_after : after ≡ record before {
    doc = stamp_lists stamp (changed_lists (makes edit)) edited;
  }
  pub is_checked : done.checked ≡ length (changed_lists (makes edit))
  pub is_left : HasOpen after done.left
  pub is_bad : HasBad after done.bad
  pub is_inverse : inverse ≡ inverse_of before.doc.root edit

-- An edit of a document is taken back by its inverse: that document is made again. The lists that
-- this changed have this stamp, and each other list keeps its own.
pub record IsReverted (edited : StampedDoc) (inverse : Inverse) (edit : Edit)
    (before : PlainDoc Unit) (stamp : ℕ) (done : Done) (after : StampedDoc) : Type 0 where
  pub led : unmarked_doc after.doc ≡ before
  pub is_after : after ≡ record edited {
    doc = stamp_lists stamp (changed_lists (undoes edit)) (doc_back 0 edited.doc inverse);
  }
  pub is_checked : done.checked ≡ length (changed_lists (undoes edit))
  pub is_left : HasOpen after done.left
  pub is_bad : HasBad after done.bad

-- The ground on which an edit of a document is refused; want of memory has none. Its shape comes
-- before the limits, and these before Impossible lists: there would be more of them than before,
-- and the path is that of the first among the lists that the edit changes.
abbrev pub HasGround : {M : Type 0} → M → PlainDtd → List ℕ → PlainDoc M → Edit → EditAnswer →
    Type 0
HasGround blank g root doc edit (Shape reason) = edit_outcome blank doc edit ≡ refuses reason
HasGround {M} blank g root doc edit Limit =
    (edited : PlainDoc M) × (edit_outcome blank doc edit ≡ gives edited) ×
    (IsWithinLimits g edited (changed_lists (makes edit)) → ⊥)
HasGround {M} blank g root doc edit (Impossible path) =
    (edited : PlainDoc M) × (edit_outcome blank doc edit ≡ gives edited) ×
    IsWithinLimits g edited (changed_lists (makes edit)) ×
    ∥ GetsWorse g root doc edited ∥₁ ×
    ∥ IsFirstImpossibleAt g root edited (changed_lists (makes edit)) path ∥₁
HasGround blank g root doc edit NoMemory = Unit {0}
