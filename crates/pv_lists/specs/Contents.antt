-- What was read of a root.
use Rattle.std.specs.Prelude.{◌≡◌, ◌≤◌, ℕ, suc, ◌+◌, Bool, true, false, List, [], ◌∷◌, length}
use Rattle.std.specs.Prelude.{Option, Some}
use Rattle.pv_tree.specs.Lists.{lists_at}
use Rattle.pv_tree.specs.Plain.{Tree}
use Rattle.pv_tree.specs.Marks.{blank_mark}
use Rattle.pv_tree.specs.declared.nodes.Mark.{Mark}
use Rattle.pv_read.specs.Items.{Item}
use Rattle.pv_read.specs.Left.{Open, in_content, in_epilog, just_opened, left_by}
use Rattle.pv_read.specs.Prologs.{behind_tag}
use Rattle.pv_read.specs.Steps.{LeadsBehind, TakesItem}
use Rattle.pv_lists.specs.Judgements.{Judgement}
use Rattle.pv_lists.specs.WholeLists.{kids_in, whole_lists}
use Rattle.pv_lists.specs.OpenLists.{HasReadTo, HasRoot}
use Rattle.pv_lists.specs.declared.open.OpenLists.{OpenLists}

-- Behind an item in these open elements, these are open.
pub record LeavesRootOpen {B F : Type 0} (m : Judgement B F) (root : List ℕ)
    (lists : OpenLists B F) (inner : Open Mark) (outer : List (Open Mark)) (i : Item)
    : Type 0 where
  pub next : Open Mark
  pub around : List (Open Mark)
  pub left_is : (before : List ℕ) →
      left_by blank_mark (in_content before inner outer) i ≡ Some (in_content before next around)
  pub has_read : HasReadTo m root lists next around
  pub few_kids : kids_in (next ∷ around) ≤ suc (kids_in (inner ∷ outer))
  pub few_lists : length (whole_lists (next ∷ around)) ≤ suc (length (whole_lists (inner ∷ outer)))

-- Behind an item in these open elements, the root is whole.
pub record EndsRoot {B F : Type 0} (m : Judgement B F) (root : List ℕ) (lists : OpenLists B F)
    (inner : Open Mark) (outer : List (Open Mark)) (i : Item) : Type 0 where
  pub tree : Tree Mark
  pub left_is : (before : List ℕ) →
      left_by blank_mark (in_content before inner outer) i ≡ Some (in_epilog before tree [])
  pub has_root : HasRoot m root lists tree
  pub few_lists : length (lists_at (0 ∷ []) tree) ≤ suc (length (whole_lists (inner ∷ outer)))

-- what is known after an item, which makes the root whole or doesn't
abbrev pub IsBehind : {B F : Type 0} → Judgement B F → List ℕ → OpenLists B F → Bool →
    Open Mark → List (Open Mark) → Item → Type 0
IsBehind m root lists true inner outer i = EndsRoot m root lists inner outer i
IsBehind m root lists false inner outer i = LeavesRootOpen m root lists inner outer i

-- This item stands at the front in these open elements without fault, and this is known after it.
pub record TakesInto {B F : Type 0} (most : Option ℕ) (m : Judgement B F) (root : List ℕ)
    (lists : OpenLists B F) (whole : Bool) (inner : Open Mark) (outer : List (Open Mark))
    (rest more : List ℕ) : Type 0 where
  pub item : Item
  pub taken : (before : List ℕ) → TakesItem most blank_mark root
      (in_content before inner outer) rest item more
  pub is_behind : IsBehind m root lists whole inner outer item

-- Items in the root, which this tag opens after so many items, up to this rest.
pub record ReadsJudgedContent {B F : Type 0} (most : Option ℕ) (m : Judgement B F)
    (root name attrs bytes : List ℕ) (first : ℕ) (lists : OpenLists B F) (rest : List ℕ)
    (count : ℕ) : Type 0 where
  pub inner : Open Mark
  pub outer : List (Open Mark)
  pub has_read : HasReadTo m root lists inner outer
  pub few_kids : kids_in (inner ∷ outer) ≤ count
  pub few_lists : length (whole_lists (inner ∷ outer)) ≤ count
  pub few : count + length rest ≤ first + length bytes
  pub leads : (before : List ℕ) →
      LeadsBehind most blank_mark root first
      (in_content before (just_opened name attrs) []) bytes count
      (in_content before inner outer) rest

-- The root that this tag opens after so many items, with what stands after it.
pub record ReadsRoot {B F : Type 0} (most : Option ℕ) (m : Judgement B F) (root : List ℕ)
    (short : Bool) (name attrs bytes : List ℕ) (first : ℕ) (lists : OpenLists B F)
    (rest : List ℕ) (count : ℕ) : Type 0 where
  pub tree : Tree Mark
  pub has_root : HasRoot m root lists tree
  pub few_lists : length (lists_at (0 ∷ []) tree) ≤ count
  pub few : count + length rest ≤ first + length bytes
  pub leads : (before : List ℕ) →
      LeadsBehind most blank_mark root first (behind_tag before short name attrs) bytes
      count (in_epilog before tree []) rest
