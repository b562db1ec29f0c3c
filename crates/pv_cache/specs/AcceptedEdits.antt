-- Which edits are accepted.
use Rattle.std.specs.Prelude.{◌≡◌, ◌<◌, ◌≤◌, List, Some, length, ℕ}
use Rattle.std.specs.List.{AllByRecursion}
use Rattle.pv_dtd.specs.Plain.{PlainDtd}
use Rattle.pv_edit.specs.ChangedLists.{changed_lists, makes}
use Rattle.pv_edit.specs.Reasons.{edit_outcome, gives}
use Rattle.pv_edit.specs.declared.edits.Edit.{Edit}
use Rattle.pv_missing.specs.Completions.{IsPotentiallyValid}
use Rattle.pv_missing.specs.Verdicts.{HaveImpossible}
use Rattle.pv_missing.specs.Widths.{FitsVerdict, IsListForVerdict}
use Rattle.pv_tree.specs.Lists.{lists_of}
use Rattle.pv_tree.specs.Places.{list_at}
use Rattle.pv_tree.specs.Plain.{PlainDoc, Tree, forest_of, nodes_in}
use Rattle.pv_tree.specs.View.{view}
use Rattle.pv_tree.specs.Words.{word_of}

-- the nodes that an edited document may have below its document node
abbrev pub MAX_EDITED_NODES : ℕ
MAX_EDITED_NODES = 33554432

-- the list at this path isn't too wide for a verdict
abbrev pub IsNarrowAt : {M : Type 0} → PlainDtd → PlainDoc M → List ℕ → Type 0
IsNarrowAt {M} g doc path = (kids : List (Tree M)) → list_at path doc.root ≡ Some kids →
    FitsVerdict g (length (word_of g (forest_of kids)))

-- An edited document is within the limits: it hasn't too many nodes, and none of the changed lists
-- is too wide.
pub record IsWithinLimits {M : Type 0} (g : PlainDtd) (doc : PlainDoc M) (changed : List (List ℕ)) :
    Type 0 where
  pub few : nodes_in doc.root ≤ MAX_EDITED_NODES
  pub narrow : AllByRecursion (IsNarrowAt g doc) changed

-- So many lists of one document are Impossible, and so many of another.
pub record HaveBoth {M : Type 0} (g : PlainDtd) (root : List ℕ) (doc other : PlainDoc M)
    (before after : ℕ) : Type 0 where
  pub had : HaveImpossible g root (lists_of doc) before
  pub has : HaveImpossible g root (lists_of other) after

-- No more lists of the edited document are Impossible than of the one before.
abbrev pub GetsNoWorse : {M : Type 0} → PlainDtd → List ℕ → PlainDoc M → PlainDoc M → Type 0
GetsNoWorse g root doc edited =
    (before : ℕ) × (after : ℕ) × HaveBoth g root doc edited before after × (after ≤ before)

-- More lists of the edited document are Impossible than of the one before.
abbrev pub GetsWorse : {M : Type 0} → PlainDtd → List ℕ → PlainDoc M → PlainDoc M → Type 0
GetsWorse g root doc edited =
    (before : ℕ) × (after : ℕ) × HaveBoth g root doc edited before after × (before < after)

-- An edit is accepted: it can be made, the edited document is within the limits, and no more lists
-- of it are Impossible than before (`∥ ∥₁` says that there are such numbers, and not which verdicts
-- show them). New elements are marked with `blank`.
pub record IsAccepted {M : Type 0} (blank : M) (g : PlainDtd) (root : List ℕ) (doc : PlainDoc M)
    (edit : Edit) (edited : PlainDoc M) : Type 0 where
  pub is_edited : edit_outcome blank doc edit ≡ gives edited
  pub within : IsWithinLimits g edited (changed_lists (makes edit))
  pub no_worse : ∥ GetsNoWorse g root doc edited ∥₁

-- An edit can be made, the edited document is within the limits, and inserting elements can make
-- it valid, in whichever way.
pub record KeepsPossible {M : Type 0} (blank : M) (g : PlainDtd) (root : List ℕ) (doc : PlainDoc M)
    (edit : Edit) (edited : PlainDoc M) : Type 0 where
  pub is_edited : edit_outcome blank doc edit ≡ gives edited
  pub within : IsWithinLimits g edited (changed_lists (makes edit))
  pub possible : ∥ IsPotentiallyValid g root (view edited.root) ∥₁

-- A document can be held: no list of it is too wide for a verdict, and it hasn't too many nodes.
pub record IsHoldable {M : Type 0} (g : PlainDtd) (doc : PlainDoc M) : Type 0 where
  pub narrow : AllByRecursion (IsListForVerdict g) (lists_of doc)
  pub few : nodes_in doc.root ≤ MAX_EDITED_NODES
