-- What holds of well marked documents.
use Rattle.std.specs.Prelude.{List, Option, true, false, ℕ, ◌+◌, ◌≡◌}
use Rattle.std.specs.List.{AllByRecursion}
use Rattle.pv_cache.specs.BadLists.{bad_gained, bad_lost}
use Rattle.pv_cache.specs.VerdictsAfterChange.{AreJudged, IsFirstAmong, IsFirstImpossibleAt}
use Rattle.pv_cache.specs.VerdictsAfterChange.{owner_at}
use Rattle.pv_cache.specs.Updates.{update_doc}
use Rattle.pv_cache.specs.Moves.{HasBad, HasOpen}
use Rattle.pv_cache.specs.Rows.{AreRows}
use Rattle.pv_cache.specs.Stamps.{StampedDoc}
use Rattle.pv_cache.specs.WellMarked.{IsWellMarked, told_bad, verdicts_told}
use Rattle.pv_cache.specs.declared.updates.InnerVerdict.{InnerVerdict}
use Rattle.pv_dtd.specs.Plain.{PlainDtd}
use Rattle.pv_edit.specs.BroughtElements.{BringsBare, lists_changed}
use Rattle.pv_edit.specs.Changes.{Change, doc_after}
use Rattle.pv_edit.specs.FittingChanges.{CanChange}
use Rattle.pv_edit.specs.declared.answers.VerdictRow.{VerdictRow}
use Rattle.pv_edit.specs.Reasons.{is_top, kids_at}
use Rattle.pv_missing.specs.Verdicts.{AreVerdicts, impossible_in, possible_in}
use Rattle.pv_missing.specs.Widths.{IsListForVerdict}
use Rattle.pv_tree.specs.Lists.{lists_of}
use Rattle.pv_tree.specs.Marks.{unmarked_doc}
use Rattle.pv_tree.specs.Plain.{PlainDoc, nodes_in}
use Rattle.pv_tree.specs.declared.nodes.Mark.{Mark}
use Rattle.pv_tree.specs.declared.nodes.Verdict.{Verdict}

-- The marks of a well marked document tell the verdicts of its lists, in document order; its own
-- mark tells how many of them are Possible, and how many nodes there are; their marks tell how many
-- are Impossible. No list is too wide.
abbrev pub MarksTell : Type 0
MarksTell = (g : PlainDtd) (root : List ℕ) (doc : PlainDoc Mark) → IsWellMarked g root doc →
    AreVerdicts g root (lists_of doc) (verdicts_told doc) ×
    (doc.mark.left ≡ possible_in (verdicts_told doc)) × (doc.mark.nodes ≡ nodes_in doc.root) ×
    (told_bad doc ≡ impossible_in (verdicts_told doc)) ×
    AllByRecursion (IsListForVerdict g) (lists_of doc)

-- A well marked document, of which a list is changed so that the changed lists have these verdicts,
-- is well marked once its marks are updated.
abbrev pub UpdatedIsMarked : Type 0
UpdatedIsMarked = (g : PlainDtd) (root : List ℕ) (doc : PlainDoc Mark) (c : Change Mark)
    (v : Verdict)
    (i : Option InnerVerdict) (stamp : ℕ) → IsWellMarked g root doc → CanChange c.list c doc.root →
    (is_top c.list ≡ true → c.shorten ≡ false) → BringsBare c.filling →
    AreJudged g root (owner_at c.list doc.root) (kids_at c.list doc.root) c v i →
    IsWellMarked g root (update_doc c.list v i stamp (doc_after c doc))

-- a updated document is the same document
abbrev pub UpdatesKeepDocuments : Type 0
UpdatesKeepDocuments = (path : List ℕ) (v : Verdict) (i : Option InnerVerdict) (stamp : ℕ)
    (doc : PlainDoc Mark) →
    unmarked_doc (update_doc path v i stamp doc) ≡ unmarked_doc doc

-- The number of its Impossible lists is that from before, without those that the change takes away
-- or changes, and with those of the changed lists.
abbrev pub UpdatedIsCounted : Type 0
UpdatedIsCounted = (g : PlainDtd) (root : List ℕ) (doc : PlainDoc Mark) (c : Change Mark)
    (v : Verdict)
    (i : Option InnerVerdict) (stamp : ℕ) → CanChange c.list c doc.root →
    (is_top c.list ≡ true → c.shorten ≡ false) → BringsBare c.filling →
    AreJudged g root (owner_at c.list doc.root) (kids_at c.list doc.root) c v i →
    told_bad (update_doc c.list v i stamp (doc_after c doc)) + bad_lost c doc
    ≡ told_bad doc + bad_gained v i

-- The first Impossible one of the lists that a change changes, as the changed document has them, is
-- the first of their verdicts that is Impossible.
abbrev pub FirstIsFirstAmong : Type 0
FirstIsFirstAmong = (g : PlainDtd) (root : List ℕ) (doc : PlainDoc Mark) (c : Change Mark)
    (v : Verdict) (i : Option InnerVerdict) (path : List ℕ) → CanChange c.list c doc.root →
    (is_top c.list ≡ true → c.shorten ≡ false) → BringsBare c.filling →
    AreJudged g root (owner_at c.list doc.root) (kids_at c.list doc.root) c v i →
    IsFirstAmong c.list v i path →
    IsFirstImpossibleAt g root (doc_after c doc) (lists_changed c) path

-- The rows of a document with stamps are one list.
abbrev pub HasOneRows : Type 0
HasOneRows = (s : StampedDoc) (rows other : List VerdictRow) → AreRows s rows → AreRows s other →
    rows ≡ other

-- The number of its Possible lists is one number.
abbrev pub HasOneOpen : Type 0
HasOneOpen = (s : StampedDoc) (m n : ℕ) → HasOpen s m → HasOpen s n → m ≡ n

-- And so is that of its Impossible lists.
abbrev pub HasOneBad : Type 0
HasOneBad = (s : StampedDoc) (m n : ℕ) → HasBad s m → HasBad s n → m ≡ n
