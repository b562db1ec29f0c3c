-- The changes of the program as plain changes, and which of them can be made.
use Rattle.std.specs.Prelude.{◌≡◌, ◌≤◌, ℕ, zero, suc, List, [], ◌∷◌, length, IsTrue, IsSomeAnd}
use Rattle.std.specs.Prelude.{Result, Ok, Err}
use Rattle.std.specs.List.{between, splice}
use Rattle.pv_tree.specs.Plain.{Tree, element, text_node, cdata_node, misc_node, forest_of}
use Rattle.pv_tree.specs.Plain.{is_element}
use Rattle.pv_tree.specs.Places.{kids_of, node_below}
use Rattle.pv_tree.specs.PlainForms.{plain_all, plain_end}
use Rattle.pv_tree.specs.declared.nodes.Mark.{Mark}
use Rattle.pv_tree.specs.Marks.{blank_mark}
use Rattle.pv_edit.specs.Changes as plain_changes
use Rattle.pv_edit.specs.Changes.{in_place_of, list_after}
use Rattle.pv_edit.specs.Reasons.{is_one_element}
use Rattle.pv_edit.specs.declared.tasks.Change.{Change}
use Rattle.pv_edit.specs.declared.tasks.Task.{Task}
use Rattle.pv_edit.specs.declared.filling.Filling.{Filling}
use Rattle.pv_edit.specs.declared.filling.Filling.TheVariants.{Others, Around, Inner, Named}

-- the plain form of what comes in place of trees
abbrev pub plain_filling : Filling → plain_changes.Filling Mark
plain_filling (Others nodes) = plain_changes.others (plain_all nodes.items)
plain_filling (Around name attrs e) = plain_changes.around name attrs (plain_end e) blank_mark
plain_filling Inner = plain_changes.inner
plain_filling (Named name) = plain_changes.named name

-- a filling can come in place of trees: an element gives way to its kids, and an element is renamed
abbrev pub CanFill : {M : Type 0} → plain_changes.Filling M → List (Tree M) → Type 0
CanFill (plain_changes.others trees) ts = Unit {0}
CanFill (plain_changes.around name attrs ending mark) ts = Unit {0}
CanFill plain_changes.inner ts = IsTrue (is_one_element ts)
CanFill (plain_changes.named name) ts = IsTrue (is_one_element ts)

-- the trees with a filling in place of some
abbrev pub with_filling : {M : Type 0} → ℕ → ℕ → plain_changes.Filling M → List (Tree M) →
    List (Tree M)
with_filling from to filling ts = splice ts from to (in_place_of filling (between from to ts))

-- the change of the list at a path
abbrev pub plain_change : List ℕ → Change → plain_changes.Change Mark
plain_change list c = record {
  list = list;
  from = c.from;
  to = c.to;
  filling = plain_filling c.filling;
  shorten = c.shorten;
}

-- the plain form of a change of one list
abbrev pub plain_task : Task → plain_changes.Change Mark
plain_task task = plain_change task.list task.change

-- the element with other kids
abbrev pub with_kids : {M : Type 0} → List (Tree M) → Tree M → Tree M
with_kids ts (element x attrs ending kids mark) = element x attrs ending (forest_of ts) mark
with_kids ts (text_node units) = text_node units
with_kids ts (cdata_node bytes) = cdata_node bytes
with_kids ts (misc_node bytes) = misc_node bytes

-- what a change makes of a tree, where there is memory for it
abbrev pub if_made : {T E M : Type 0} → Result T E → (Tree M → Tree M) → Tree M → Tree M
if_made (Ok made) f t = f t
if_made (Err e) f t = t

-- a list in which a change can be made
pub record SuitsChange {M : Type 0} (c : plain_changes.Change M) (ts : List (Tree M)) : Type 0 where
  pub order : c.from ≤ c.to
  pub within : c.to ≤ length ts
  pub fits : CanFill c.filling (between c.from c.to ts)

-- an element whose list can be changed
pub record TakesChange {M : Type 0} (c : plain_changes.Change M) (t : Tree M) : Type 0 where
  pub elem : IsTrue (is_element t)
  pub suits : SuitsChange c (kids_of t)

-- the list of the document node can be changed: it holds one tree afterwards too
pub record TakesTop {M : Type 0} (c : plain_changes.Change M) (root : Tree M) : Type 0 where
  pub suits : SuitsChange c (root ∷ [])
  pub one : length (list_after c (root ∷ [])) ≡ 1

-- the list at a path can be changed
abbrev pub CanChange : {M : Type 0} → List ℕ → plain_changes.Change M → Tree M → Type 0
CanChange [] c root = TakesTop c root
CanChange (zero ∷ path) c root = IsSomeAnd (node_below path root) (TakesChange c)
CanChange (suc i ∷ path) c root = ⊥
