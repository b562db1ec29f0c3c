-- Tasks in a well marked document: which can be done, what they do, and why one isn't accepted.
use Rattle.std.specs.Prelude.{List, None, Option, [], false, length, true, ℕ, ◌<◌, ◌≤◌, ◌∷◌, ◌≡◌}
use Rattle.std.specs.List.{between}
use Rattle.pv_cache.specs.AcceptedEdits.{MAX_EDITED_NODES}
use Rattle.pv_cache.specs.BadLists.{bad_gained, bad_lost}
use Rattle.pv_cache.specs.VerdictsAfterChange.{AreJudged, IsFirstAmong, owner_at}
use Rattle.pv_cache.specs.ChangedWords.{AreListTokens}
use Rattle.pv_cache.specs.PlainMarked.{PlainMarked}
use Rattle.pv_cache.specs.declared.updates.InnerVerdict.{InnerVerdict}
use Rattle.pv_cache.specs.declared.moving.JudgedEdit.{JudgedEdit}
use Rattle.pv_cache.specs.Stamps.{stamp_lists, stamps_of}
use Rattle.pv_dtd.specs.Plain.{PlainDtd}
use Rattle.pv_edit.specs.BroughtElements.{BringsBare, brings_element, lists_changed}
use Rattle.pv_edit.specs.Changes.{Change, doc_after, in_place_of, list_after, root_after}
use Rattle.pv_edit.specs.Effects.{change_of}
use Rattle.pv_edit.specs.FittingChanges.{CanChange, plain_filling, plain_task}
use Rattle.pv_edit.specs.Inverses.{IsKept}
use Rattle.pv_edit.specs.Reasons.{is_top, kids_at, reason_of}
use Rattle.pv_edit.specs.Preparations.{IsPreparation}
use Rattle.pv_edit.specs.declared.answers.EditAnswer.{EditAnswer}
use Rattle.pv_edit.specs.declared.answers.EditAnswer.TheVariants.{Impossible, Limit, NoMemory}
use Rattle.pv_edit.specs.declared.answers.EditAnswer.TheVariants.{Shape}
use Rattle.pv_edit.specs.declared.edits.Edit.{Edit}
use Rattle.pv_edit.specs.declared.tasks.Task.{Task}
use Rattle.pv_missing.specs.Widths.{FitsVerdict}
use Rattle.pv_tree.specs.Marks.{blank_mark, unmarked_doc}
use Rattle.pv_tree.specs.Plain.{Ending, Forest, PlainDoc, Tree, element, forest_of, nodes_in}
use Rattle.pv_tree.specs.Words.{word_of}
use Rattle.pv_tree.specs.declared.nodes.Mark.{Mark}
use Rattle.pv_tree.specs.declared.nodes.Verdict.{Verdict}

-- none of the lists that a change of these kids changes is too wide for a verdict
pub record AreNarrowAfter (g : PlainDtd) (c : Change Mark) (kids : List (Tree Mark)) : Type 0 where
  pub outer : FitsVerdict g (length (word_of g (forest_of (list_after c kids))))
  pub inner : brings_element c.filling ≡ true →
      (name attrs : List ℕ) (ending : Ending) (below : Forest Mark) (mark : Mark) →
      in_place_of c.filling (between c.from c.to kids) ≡ element name attrs ending below mark ∷ [] →
      FitsVerdict g (length (word_of g below))

-- The changed lists have these verdicts, more of them are Impossible than of those that the change
-- takes away or changes, and the path is that of the first.
pub record AreWorse (g : PlainDtd) (root : List ℕ) (doc : PlainDoc Mark) (c : Change Mark)
    (path : List ℕ) : Type 0 where
  pub verdict : Verdict
  pub inner : Option InnerVerdict
  pub judged : AreJudged g root (owner_at c.list doc.root) (kids_at c.list doc.root) c verdict inner
  pub more : bad_lost c doc < bad_gained verdict inner
  pub first : IsFirstAmong c.list verdict inner path

-- A change isn't accepted: a changed list is too wide; or none is, and more are Impossible than
-- before.
abbrev pub IsUnaccepted : PlainDtd → List ℕ → PlainDoc Mark → Change Mark → EditAnswer → Type 0
IsUnaccepted g root doc c (Shape reason) = ⊥
IsUnaccepted g root doc c (Impossible path) =
    AreNarrowAfter g c (kids_at c.list doc.root) × AreWorse g root doc c path
IsUnaccepted g root doc c Limit = AreNarrowAfter g c (kids_at c.list doc.root) → ⊥
IsUnaccepted g root doc c NoMemory = Unit {0}

-- A task can be done in a document: its change can be made, keeps what each document keeps, and
-- brings no more than one element, without kids. There aren't too many nodes afterwards.
pub record IsTaskFor (doc : PlainDoc Mark) (task : Task) : Type 0 where
  pub can : CanChange task.list (plain_task task) doc.root
  pub unshort : is_top task.list ≡ true → task.change.shorten ≡ false
  pub bare : BringsBare (plain_filling task.change.filling)
  pub kept : IsKept (root_after task.list (plain_task task) doc.root)
  pub few : nodes_in (root_after task.list (plain_task task) doc.root) ≤ MAX_EDITED_NODES

-- A task is done: its change is made, the lists that it changes have this stamp, and each other
-- list keeps its own. So many lists were changed.
pub record IsChanged (before : PlainMarked) (task : Task) (stamp lists : ℕ) (after : PlainMarked) :
    Type 0 where
  pub same_dtd : after.dtd ≡ before.dtd
  pub same_root : after.root ≡ before.root
  pub made : unmarked_doc after.doc ≡ unmarked_doc (doc_after (plain_task task) before.doc)
  pub stamps : stamps_of after.doc ≡ stamp_lists stamp (lists_changed (plain_task task))
      (stamps_of (doc_after (plain_task task) before.doc))
  pub counted : lists ≡ length (lists_changed (plain_task task))

-- what an edit makes of a document
abbrev pub edited_doc : PlainDoc Mark → Edit → PlainDoc Mark
edited_doc doc edit = doc_after (change_of blank_mark doc.root edit) doc

-- An edit is ready to be made: what it does and what undoes it, the verdicts of the lists that it
-- changes, no more of which are Impossible than of those that it takes away or changes, and the
-- tokens of its list afterwards.
pub record IsReady (g : PlainDtd) (root : List ℕ) (doc : PlainDoc Mark) (edit : Edit)
    (ready : JudgedEdit) : Type 0 where
  pub given : reason_of blank_mark doc.root edit ≡ None
  pub prepared : IsPreparation doc.root edit (record { task = ready.task; inverse = ready.inverse })
  pub task : IsTaskFor doc ready.task
  pub judged : AreJudged g root (owner_at ready.task.list doc.root)
      (kids_at ready.task.list doc.root) (plain_task ready.task)
      ready.verdicts.outer ready.verdicts.inner
  pub no_more : bad_gained ready.verdicts.outer ready.verdicts.inner ≤
      bad_lost (plain_task ready.task) doc
  pub tokens : AreListTokens g (forest_of (list_after (plain_task ready.task)
      (kids_at ready.task.list doc.root))) ready.tokens
