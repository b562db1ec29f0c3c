-- What holds of a document whatever its marks are. M and N are types of marks.
use Rattle.std.specs.Prelude.{List, ℕ, ◌≡◌}
use Rattle.pv_cache.specs.AcceptedEdits.{IsAccepted, IsHoldable}
use Rattle.pv_cache.specs.Stamps.{doc_as}
use Rattle.pv_dtd.specs.Plain.{PlainDtd}
use Rattle.pv_edit.specs.Inverses.{IsKept, inverse_of}
use Rattle.pv_edit.specs.declared.edits.Edit.{Edit}
use Rattle.pv_tree.specs.Plain.{PlainDoc, Tree, map_marks}

-- What holds of a document holds of it with other marks: that an edit of it is accepted, that it
-- can be held, what each document keeps, and the inverse of an edit.
pub record HoldsByOtherMarks (M N : Type 0) : Type 0 where
  pub accepted : (f : M → N) (blank : M) (g : PlainDtd) (root : List ℕ) (doc edited : PlainDoc M)
      (edit : Edit) → IsAccepted blank g root doc edit edited →
      IsAccepted (f blank) g root (doc_as f doc) edit (doc_as f edited)
  pub holdable : (f : M → N) (g : PlainDtd) (doc : PlainDoc M) →
      IsHoldable g doc → IsHoldable g (doc_as f doc)
  pub kept : (f : M → N) (root : Tree M) → IsKept root → IsKept (map_marks f root)
  pub inverse : (f : M → N) (root : Tree M) (edit : Edit) →
      inverse_of (map_marks f root) edit ≡ inverse_of root edit
