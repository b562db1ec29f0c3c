-- What was read of a root.
use Rattle.std.specs.Prelude.{◌≤◌, ℕ, suc, ◌+◌, List, [], length, Option}
use Rattle.pv_tree.specs.Marks.{blank_mark}
use Rattle.pv_tree.specs.declared.nodes.Node.{Node}
use Rattle.pv_read.specs.Left.{in_content, just_opened}
use Rattle.pv_read.specs.Steps.{LeadsBehind}
use Rattle.pv_read.specs.OpenElements.{left_in, left_after}
use Rattle.pv_read.specs.declared.open.OpenElements.{OpenElements}

-- one item, after so many, leads from what is left in these elements to what is left after it
abbrev pub IsStep : Option ℕ → List ℕ → OpenElements → List ℕ → OpenElements → Option Node →
    List ℕ → Type 0
IsStep most root old rest new whole more = (before : List ℕ) (count : ℕ) →
    LeadsBehind most blank_mark root count (left_in before old) rest (suc count)
    (left_after before new whole) more

-- Items in the root, which this tag opens after so many items, up to this rest.
pub record ReadsContent (most : Option ℕ) (root name attrs bytes : List ℕ) (first : ℕ)
    (elements : OpenElements) (rest : List ℕ) (count : ℕ) : Type 0 where
  pub few : count + length rest ≤ first + length bytes
  pub leads : (before : List ℕ) →
      LeadsBehind most blank_mark root first (in_content before (just_opened name attrs) []) bytes
      count (left_in before elements) rest
