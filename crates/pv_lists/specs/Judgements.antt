-- What a judge of lists says of them.
use Rattle.std.specs.Prelude.{◌≡◌, ◌<◌, ℕ, List, ◌∷◌, ◌++◌, length, map}
use Rattle.pv_model.specs.PlainForms.{plain_token}
use Rattle.pv_model.specs.declared.models.Token.{Token}
use Rattle.pv_dtd.specs.Plain.{PlainDtd, number_of}
use Rattle.pv_dtd.specs.Hedge.{token}
use Rattle.pv_tree.specs.Plain.{Tree, forest_of}
use Rattle.pv_tree.specs.Lists.{Listed, an_element}
use Rattle.pv_tree.specs.Words.{word_of}
use Rattle.pv_tree.specs.declared.nodes.Mark.{Mark}
use Rattle.pv_lists.specs.declared.open.OpenList.{OpenList}

-- the most kids of an element, and the most lists
abbrev pub MAX_KIDS : ℕ
MAX_KIDS = 4294967295

-- What a judge says: by which DTD, what its findings say of lists in document order, where the root
-- has a name, and what its notes say of such lists.
pub record Judgement (B F : Type 0) : Type 1 where
  pub dtd : PlainDtd
  pub finds : List ℕ → List (Listed Mark) → F → Type 0
  pub notes : List ℕ → List (Listed Mark) → B → Type 0

-- the path of the innermost open element, where these are around it, outermost first
abbrev pub path_in : {B : Type 0} → List (OpenList B) → List ℕ
path_in {B} outer = 0 ∷ map (λ (l : OpenList B). l.kids) outer

-- the list of an open element, where it ends with these kids
abbrev pub ended_list : {B : Type 0} → OpenList B → List (OpenList B) → List (Tree Mark) → Listed Mark
ended_list list outer kids =
    record { path = path_in outer; owner = an_element list.name.now; kids = forest_of kids }

-- The open element has this token in the list that it stands in, so many kids, which are these, and
-- this is their word.
pub record IsEnded {B : Type 0} (g : PlainDtd) (list : OpenList B) (word : List Token)
    (kids : List (Tree Mark)) : Type 0 where
  pub is_token : plain_token list.token ≡ token (number_of g list.name.now)
  pub is_count : list.kids ≡ length kids
  pub is_word : map plain_token word ≡ word_of g (forest_of kids)

-- what was found comes to this where this open element ends, wherever its list stands among those
-- that were whole: before those of its kids, and after those that were whole before it began
abbrev pub FindsEnded : {B F : Type 0} → Judgement B F → OpenList B → List Token →
    List (OpenList B) → F → F → Type 0
FindsEnded m list word outer old new =
    (root : List ℕ) (before after : List (Listed Mark)) (kids : List (Tree Mark)) →
    m.finds root (before ++ after) old → m.notes root before list.before →
    IsEnded m.dtd list word kids → m.finds root (before ++ ended_list list outer kids ∷ after) new

-- The open element is whole, and the findings are of fewer lists than there may be.
pub record MayBeJudged {B F : Type 0} (m : Judgement B F) (list : OpenList B) (word : List Token)
    (found : F) : Type 0 where
  pub kids : List (Tree Mark)
  pub is_whole : IsEnded m.dtd list word kids
  pub root : List ℕ
  pub lists : List (Listed Mark)
  pub finds : m.finds root lists found
  pub few : length lists < MAX_KIDS
