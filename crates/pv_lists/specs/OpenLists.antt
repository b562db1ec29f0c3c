-- The lists of the open elements, as far as they were read.
use Rattle.std.specs.Prelude.{◌≡◌, ◌≤◌, ◌<◌, ℕ, Bool, true, false, List, [], ◌∷◌, ◌++◌, length}
use Rattle.std.specs.Prelude.{map, reverse, IsTrue}
use Rattle.std.specs.List.{AllByRecursion}
use Rattle.pv_chars.specs.Names.{IsName}
use Rattle.pv_model.specs.Plain.{PlainToken}
use Rattle.pv_model.specs.PlainForms.{plain_token}
use Rattle.pv_dtd.specs.Plain.{number_of}
use Rattle.pv_dtd.specs.Hedge.{token}
use Rattle.pv_tree.specs.Plain.{Tree, Ending, element, forest_of, no_trees, tree}
use Rattle.pv_tree.specs.Lists.{IsRootElement, lists_at}
use Rattle.pv_tree.specs.Words.{word_of}
use Rattle.pv_tree.specs.declared.nodes.Mark.{Mark}
use Rattle.pv_read.specs.Left.{Open, with_kid}
use Rattle.pv_lists.specs.Judgements.{Judgement, MAX_KIDS}
use Rattle.pv_lists.specs.WholeLists.{whole_lists}
use Rattle.pv_lists.specs.declared.open.OpenList.{OpenList}
use Rattle.pv_lists.specs.declared.open.OpenLists.{OpenLists}

-- This is known of an open element in others: its name, which may be known to be a Name, with its
-- token, how many kids it has so far, and which tokens, after those of the others, are their word;
-- and what was noted of the lists that were whole before it began.
pub record IsOpen {B F : Type 0} (m : Judgement B F) (root : List ℕ) (list : OpenList B)
    (o : Open Mark) (outer : List (Open Mark)) (below tokens : List PlainToken) : Type 0 where
  pub is_name : list.name.now ≡ o.name
  pub is_named : IsTrue list.is_name → IsName o.name
  pub is_token : plain_token list.token ≡ token (number_of m.dtd o.name)
  pub is_count : list.kids ≡ length o.kids
  pub is_start : list.start ≡ length below
  pub is_word : tokens ≡ below ++ word_of m.dtd (forest_of o.kids)
  pub notes : m.notes root (whole_lists outer) list.before

-- This is known of all open elements, innermost first, and all tokens are those of their words.
abbrev pub AreOpen : {B F : Type 0} → Judgement B F → List ℕ → List (OpenList B) →
    List (Open Mark) → List PlainToken → Type 0
AreOpen m root [] [] tokens = tokens ≡ []
AreOpen m root [] (o ∷ os) tokens = ⊥
AreOpen m root (l ∷ ls) [] tokens = ⊥
AreOpen m root (l ∷ ls) (o ∷ os) tokens =
    (below : List PlainToken) × IsOpen m root l o os below tokens × AreOpen m root ls os below

-- These elements are open, and this was found of the lists that are whole.
pub record HasReadTo {B F : Type 0} (m : Judgement B F) (root : List ℕ) (lists : OpenLists B F)
    (inner : Open Mark) (outer : List (Open Mark)) : Type 0 where
  pub are_open : AreOpen m root (lists.inner ∷ reverse lists.outer.items) (inner ∷ outer)
      (map plain_token lists.tokens.items)
  pub finds : m.finds root (whole_lists (inner ∷ outer)) lists.found

-- the innermost open element, where it ends so
abbrev pub ended_element : Open Mark → List ℕ → Ending → Mark → Tree Mark
ended_element o attrs ending mark = element o.name attrs ending (forest_of o.kids) mark

-- The root is whole, with the name and the token of the element that was the innermost, and this
-- was found of its lists.
pub record HasRoot {B F : Type 0} (m : Judgement B F) (root : List ℕ) (lists : OpenLists B F)
    (t : Tree Mark) : Type 0 where
  pub is_named : IsRootElement lists.inner.name.now t
  pub is_word : word_of m.dtd (tree t no_trees) ≡ plain_token lists.inner.token ∷ []
  pub finds : m.finds root (lists_at (0 ∷ []) t) lists.found

-- this tree ended in these open elements: as the root, where there are none, and else as a kid of
-- the innermost
abbrev pub HasEnded : {B F : Type 0} → Judgement B F → List ℕ → OpenLists B F → Bool →
    List (Open Mark) → Tree Mark → Type 0
HasEnded m root lists true [] t = HasRoot m root lists t
HasEnded m root lists true (o ∷ os) t = ⊥
HasEnded m root lists false [] t = ⊥
HasEnded m root lists false (o ∷ os) t = HasReadTo m root lists (with_kid o t) os

-- Each open element can have one more kid, and the word of the innermost begins within the tokens.
pub record MayGrow {B F : Type 0} (lists : OpenLists B F) : Type 0 where
  pub few : AllByRecursion (λ (l : OpenList B). l.kids < MAX_KIDS)
      (lists.inner ∷ reverse lists.outer.items)
  pub within : lists.inner.start ≤ length lists.tokens.items

-- These elements are open, and fewer lists are whole than there may be.
pub record HasRoom {B F : Type 0} (m : Judgement B F) (lists : OpenLists B F) : Type 0 where
  pub root : List ℕ
  pub inner : Open Mark
  pub outer : List (Open Mark)
  pub has_read : HasReadTo m root lists inner outer
  pub few_lists : length (whole_lists (inner ∷ outer)) < MAX_KIDS
