-- A document without the tags of marked elements.
use Rattle.std.specs.Prelude.{Bool, List, Some, [], length, map, slice_get, true, ℕ, ◌++◌, ◌<◌}
use Rattle.std.specs.Prelude.{◌==◌, ◌∷◌, ◌≡◌}
use Rattle.std.specs.List.{All, AllPairs}
use Rattle.pv_dtd.specs.Hedge.{Hedge, done, elem, elements, leaf}
use Rattle.pv_tree.specs.Marks.{blank_mark}
use Rattle.pv_tree.specs.Plain.{PlainDoc}
use Rattle.pv_tree.specs.View.{view}
use Rattle.pv_tree.specs.declared.nodes.Mark.{Mark}
use Rattle.pv_read.specs.Meaning.{DocumentMeansWithin, is_document}
use Rattle.pv_missing.specs.Completions.{LeavesOut}
use Rattle.pv_flat.specs.ComingEvents.{flat_limits}

-- The body: the bytes are the text of this document, of any depth, and no more than a gibibyte.
abbrev pub IsBodyText : List ℕ → List ℕ → PlainDoc Mark → Type 0
IsBodyText root bytes body =
    DocumentMeansWithin flat_limits blank_mark root bytes (is_document body)

-- the attribute bytes of the elements, in document order
abbrev pub attributes_of : Hedge → List (List ℕ)
attributes_of done = []
attributes_of (leaf l h) = attributes_of h
attributes_of (elem x t k h) = t ∷ (attributes_of k ++ attributes_of h)

-- The marks: they ascend, and each is the number of an element without attribute bytes, the first
-- element in document order having the number 0.
pub record AreMarks (marks : List ℕ) (body : Hedge) : Type 0 where
  pub ascend : AllPairs (λ m n. m < n) marks
  pub plain : All (λ m. slice_get (attributes_of body) m ≡ Some []) marks

-- What was kept: the body without the tags of its marked elements is the document, with its names,
-- attribute bytes, nesting, units, CDATA sections, comments and processing instructions, and with
-- its bytes before and after the root.
pub record KeepsDocument {M N : Type 0} (doc : PlainDoc M) (body : PlainDoc N) (marks : List ℕ)
    : Type 0 where
  pub same_before : body.before ≡ doc.before
  pub same_after : body.after ≡ doc.after
  pub tags : LeavesOut 0 (elements (view body.root)) marks (view doc.root) (view body.root)

-- of each of these elements, whether it has no attribute bytes
abbrev pub are_plain : List (List ℕ) → List Bool
are_plain attributes = map (λ attrs. length attrs == 0) attributes

-- the marks ascend, and at each place the value is true
pub record AreFlagged (marks : List ℕ) (values : List Bool) : Type 0 where
  pub ascend : AllPairs (λ m n. m < n) marks
  pub each : All (λ m. slice_get values m ≡ Some true) marks
