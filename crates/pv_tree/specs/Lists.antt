-- The lists of a document in document order, and which of them are valid by themselves.
use Rattle.std.specs.Prelude.{◌≡◌, ℕ, suc, List, [], ◌∷◌, ◌++◌, Option, Some}
use Rattle.std.specs.List.{AllByRecursion}
use Rattle.pv_model.specs.Plain.{PlainModel, empty}
use Rattle.pv_model.specs.Models.{Allows}
use Rattle.pv_dtd.specs.Plain.{PlainDtd, number_of, model_of, declared}
use Rattle.pv_tree.specs.Plain.{Tree, element, text_node, cdata_node, misc_node, Forest, no_trees}
use Rattle.pv_tree.specs.Plain.{tree, PlainDoc}
use Rattle.pv_tree.specs.Words.{word_of}

-- the document node, or an element of this name
pub data Owner : Type 0 where
  the_document : Owner
  an_element : (name : List ℕ) → Owner

-- the kids of an element or of the document node, and where these stand
pub record Listed (M : Type 0) : Type 0 where
  pub path : List ℕ
  pub owner : Owner
  pub kids : Forest M

-- the lists below a path: each element's before those of its kids
abbrev mutual
  pub lists_at : {M : Type 0} → List ℕ → Tree M → List (Listed M)
  lists_at path (element x attrs ending kids mark) =
      record { path = path; owner = an_element x; kids = kids } ∷ lists_from path 0 kids
  lists_at path (text_node units) = []
  lists_at path (cdata_node bytes) = []
  lists_at path (misc_node bytes) = []

  pub lists_from : {M : Type 0} → List ℕ → ℕ → Forest M → List (Listed M)
  lists_from path i no_trees = []
  lists_from path i (tree t rest) = lists_at (path ++ i ∷ []) t ++ lists_from path (suc i) rest

-- all lists of a document; the document node has the empty path, and its kids are the root alone
abbrev pub lists_of : {M : Type 0} → PlainDoc M → List (Listed M)
lists_of doc =
    record { path = []; owner = the_document; kids = tree doc.root no_trees }
    ∷ lists_at (0 ∷ []) doc.root

-- the kids fit an element of this number by themselves, whatever stands below them (XML 1.0, 3,
-- Element Valid)
pub record IsOwnValid {M : Type 0} (g : PlainDtd) (owner : Option ℕ) (kids : Forest M)
    : Type 0 where
  pub number : ℕ
  pub is_owner : owner ≡ Some number
  pub model : PlainModel
  pub is_model : model_of g number ≡ Some model
  pub no_kids : model ≡ empty → kids ≡ no_trees
  pub allowed : Allows (declared g) model (word_of g kids)

-- one element of the root's name
abbrev pub IsRootElement : {M : Type 0} → List ℕ → Tree M → Type 0
IsRootElement root (element x attrs ending kids mark) = x ≡ root
IsRootElement root (text_node units) = ⊥
IsRootElement root (cdata_node bytes) = ⊥
IsRootElement root (misc_node bytes) = ⊥

abbrev pub IsRootList : {M : Type 0} → List ℕ → Forest M → Type 0
IsRootList root no_trees = ⊥
IsRootList root (tree t rest) = IsRootElement root t × (rest ≡ no_trees)

abbrev pub IsValidBy : {M : Type 0} → PlainDtd → List ℕ → Owner → Forest M → Type 0
IsValidBy g root the_document kids = IsRootList root kids
IsValidBy g root (an_element x) kids = IsOwnValid g (number_of g x) kids

-- the list is valid by itself (XML 1.0, 3, Element Valid)
abbrev pub IsValidList : {M : Type 0} → PlainDtd → List ℕ → Listed M → Type 0
IsValidList g root list = IsValidBy g root list.owner list.kids

-- the path of the first of some lists that isn't so
pub record IsFirstNot {M : Type 0} (P : Listed M → Type 0) (lists : List (Listed M))
    (path : List ℕ) : Type 0 where
  pub before : List (Listed M)
  pub list : Listed M
  pub after : List (Listed M)
  pub is_split : lists ≡ before ++ list ∷ after
  pub all_before : AllByRecursion P before
  pub is_not : P list → ⊥
  pub is_path : path ≡ list.path
