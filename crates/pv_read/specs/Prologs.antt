-- What was read of a prolog.
use Rattle.std.specs.Prelude.{◌≡◌, ◌≤◌, ℕ, suc, ◌+◌, Bool, true, false, List, [], ◌++◌, length}
use Rattle.std.specs.Prelude.{Option}
use Rattle.pv_tree.specs.Marks.{blank_mark}
use Rattle.pv_tree.specs.declared.nodes.Mark.{Mark}
use Rattle.pv_read.specs.Left.{Left, PlainStage, at_front, in_prolog, in_content, in_epilog}
use Rattle.pv_read.specs.Left.{just_opened, empty_element}
use Rattle.pv_read.specs.Steps.{LeadsBehind}
use Rattle.pv_read.specs.declared.prolog.RootTag.{RootTag}

-- Items in the prolog, from its front to this rest at this stage.
pub record ReadsProlog (most : Option ℕ) (root text : List ℕ) (stage : PlainStage) (rest : List ℕ)
    (count : ℕ) : Type 0 where
  pub before : List ℕ
  pub whole : text ≡ before ++ rest
  pub few : count + length rest ≤ length text
  pub leads : (mark : List ℕ) →
      LeadsBehind most blank_mark root 0 (in_prolog at_front mark) text
      count (in_prolog stage (mark ++ before)) rest

-- what is left after the tag that opens the root
abbrev pub behind_tag : List ℕ → Bool → List ℕ → List ℕ → Left Mark
behind_tag before true name attrs = in_epilog before (empty_element blank_mark name attrs) []
behind_tag before false name attrs = in_content before (just_opened name attrs) []

-- This tag opens the root of a text.
pub record OpensRoot (most : Option ℕ) (root text : List ℕ) (tag : RootTag) : Type 0 where
  pub before : List ℕ
  pub whole : text ≡ before ++ tag.from_tag.now
  pub few : suc tag.count + length tag.rest.now ≤ length text
  pub leads : (mark : List ℕ) →
      LeadsBehind most blank_mark root 0 (in_prolog at_front mark) text (suc tag.count)
      (behind_tag (mark ++ before) tag.is_short tag.tag.name.now tag.tag.attrs.now) tag.rest.now
