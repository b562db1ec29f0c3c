-- Documents with a stamp beside each list: the number of the move that changed the list last, or
-- made its element.
use Rattle.std.specs.Prelude.{List, None, Option, Some, [], ℕ, ◌++◌, ◌∷◌}
use Rattle.pv_cache.specs.declared.updates.InnerVerdict.{InnerVerdict}
use Rattle.pv_dtd.specs.Plain.{PlainDtd}
use Rattle.pv_edit.specs.Changes.{change_below}
use Rattle.pv_tree.specs.Plain.{PlainDoc, Tree, element, map_marks}
use Rattle.pv_tree.specs.declared.nodes.Mark.{Mark}

-- A document for a DTD and a root's name. The mark of each list is its stamp.
pub record StampedDoc : Type 0 where
  pub dtd : PlainDtd
  pub root : List ℕ
  pub doc : PlainDoc ℕ

-- the document with other marks
abbrev pub doc_as : {M N : Type 0} → (M → N) → PlainDoc M → PlainDoc N
doc_as f doc = record {
  before = doc.before;
  root = map_marks f doc.root;
  after = doc.after;
  mark = f doc.mark;
}

abbrev pub stamp_of : Mark → ℕ
stamp_of mark = mark.stamp

-- of the marks of a document only the stamps
abbrev pub stamps_of : PlainDoc Mark → PlainDoc ℕ
stamps_of doc = doc_as stamp_of doc

-- an element with another mark
abbrev pub with_mark : {M : Type 0} → M → Tree M → Tree M
with_mark m (element x attrs ending kids mark) = element x attrs ending kids m
with_mark m t = t

-- a document in which the list at a path has another mark
abbrev pub with_mark_at : {M : Type 0} → M → List ℕ → PlainDoc M → PlainDoc M
with_mark_at m [] doc = record doc { mark = m }
with_mark_at m (i ∷ path) doc = record doc { root = change_below path (with_mark m) doc.root }

-- a document in which the lists at these paths have another mark
abbrev pub stamp_lists : {M : Type 0} → M → List (List ℕ) → PlainDoc M → PlainDoc M
stamp_lists m [] doc = doc
stamp_lists m (path ∷ paths) doc = stamp_lists m paths (with_mark_at m path doc)

-- a document with the stamps of its marks
abbrev pub stamped_doc_of : PlainDtd → List ℕ → PlainDoc Mark → StampedDoc
stamped_doc_of g root doc = record { dtd = g; root = root; doc = stamps_of doc }

-- the list at a path, and that of one of its kids, where it has a new verdict too
abbrev pub changed_by : List ℕ → Option InnerVerdict → List (List ℕ)
changed_by list None = list ∷ []
changed_by list (Some i) = list ∷ (list ++ i.place ∷ []) ∷ []
