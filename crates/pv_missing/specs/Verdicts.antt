-- The verdict of a list.
use Rattle.std.specs.Prelude.{Bool, List, MatchOption, Option, Some, [], count_by, false, length}
use Rattle.std.specs.Prelude.{slice_get, true, ℕ, ◌<◌, ◌∷◌, ◌≡◌, ◌≢◌}
use Rattle.std.specs.List.{AllByRecursion}
use Rattle.pv_model.specs.Plain.{PlainToken, empty}
use Rattle.pv_dtd.specs.Plain.{PlainDtd, model_of, number_of}
use Rattle.pv_tree.specs.Lists.{IsFirstNot, IsValidList, Listed, Owner, an_element, the_document}
use Rattle.pv_tree.specs.Plain.{Forest, Tree, cdata_node, element, misc_node, no_trees, text_node}
use Rattle.pv_tree.specs.Plain.{tree}
use Rattle.pv_tree.specs.Words.{word_of}
use Rattle.pv_missing.specs.FilledWords.{IsPossible, IsPossibleRoot}
use Rattle.pv_missing.specs.LiveWords.{IsLiveWord}
use Rattle.pv_dtd.specs.Productive.{IsProductive, IsProductiveName}
use Rattle.pv_tree.specs.declared.nodes.Verdict.{Verdict}
use Rattle.pv_tree.specs.declared.nodes.Verdict.TheVariants as verdict

-- The kids may stand in an element of this name: the name is productive, an EMPTY element has no
-- kids of any kind, and the live word is possible for its content.
pub record IsLiveContent {M : Type 0} (g : PlainDtd) (x : List ℕ) (kids : Forest M) : Type 0 where
  pub number : ℕ
  pub is_owner : number_of g x ≡ Some number
  pub productive : IsProductive g number
  pub no_kids : model_of g number ≡ Some empty → kids ≡ no_trees
  pub live : List PlainToken
  pub is_live : IsLiveWord g (word_of g kids) live
  pub possible : IsPossible g number live

-- they may stand in the document node: the DTD has the root's name, and the live word is possible
pub record IsLiveRoot {M : Type 0} (g : PlainDtd) (root : List ℕ) (kids : Forest M) : Type 0 where
  pub number : ℕ
  pub is_owner : number_of g root ≡ Some number
  pub live : List PlainToken
  pub is_live : IsLiveWord g (word_of g kids) live
  pub possible : IsPossibleRoot g number live

abbrev pub IsLiveBy : {M : Type 0} → PlainDtd → List ℕ → Owner → Forest M → Type 0
IsLiveBy g root the_document kids = IsLiveRoot g root kids
IsLiveBy g root (an_element x) kids = IsLiveContent g x kids

-- the list isn't impossible
abbrev pub IsLive : {M : Type 0} → PlainDtd → List ℕ → Listed M → Type 0
IsLive g root list = IsLiveBy g root list.owner list.kids

-- Impossible where the list isn't live; else Valid where it is valid by itself, and Possible where
-- it isn't
abbrev pub Judges : Verdict → Type 0 → Type 0 → Type 0
Judges verdict.Valid live own = live × own
Judges verdict.Possible live own = live × (own → ⊥)
Judges verdict.Impossible live own = live → ⊥

-- the verdict of a list
abbrev pub IsVerdict : {M : Type 0} → PlainDtd → List ℕ → Listed M → Verdict → Type 0
IsVerdict g root list v = Judges v (IsLive g root list) (IsValidList g root list)

-- the verdicts of lists, in their order
abbrev pub AreVerdicts : {M : Type 0} → PlainDtd → List ℕ → List (Listed M) → List Verdict → Type 0
AreVerdicts g root [] vs = vs ≡ []
AreVerdicts g root (list ∷ lists) vs = (v : Verdict) × (rest : List Verdict) × (vs ≡ v ∷ rest) ×
    IsVerdict g root list v × AreVerdicts g root lists rest

-- there are as many verdicts as lists, and each is that of the list of its number
pub record AreVerdictsByNumber {M : Type 0} (g : PlainDtd) (root : List ℕ) (lists : List (Listed M))
    (vs : List Verdict) : Type 0 where
  pub as_many : length vs ≡ length lists
  pub each : (k : ℕ) (list : Listed M) (v : Verdict) → slice_get lists k ≡ Some list →
      slice_get vs k ≡ Some v → IsVerdict g root list v

-- this is the number of the first of the verdicts that is v
pub record IsFirstVerdict (v : Verdict) (vs : List Verdict) (k : ℕ) : Type 0 where
  pub is_there : slice_get vs k ≡ Some v
  pub none_before : (i : ℕ) → i < k → slice_get vs i ≢ Some v

-- the path of the first impossible list
abbrev pub IsFirstImpossible : {M : Type 0} → PlainDtd → List ℕ → List (Listed M) → List ℕ → Type 0
IsFirstImpossible g root lists path = IsFirstNot (IsLive g root) lists path

abbrev pub is_possible : Verdict → Bool
is_possible verdict.Valid = false
is_possible verdict.Possible = true
is_possible verdict.Impossible = false

-- how many of the verdicts are Possible
abbrev pub possible_in : List Verdict → ℕ
possible_in vs = count_by is_possible vs

abbrev pub is_impossible : Verdict → Bool
is_impossible verdict.Valid = false
is_impossible verdict.Possible = false
is_impossible verdict.Impossible = true

-- how many of them are Impossible
abbrev pub impossible_in : List Verdict → ℕ
impossible_in vs = count_by is_impossible vs

-- the lists have verdicts, and so many of these pass the test
pub record HaveCount {M : Type 0} (test : Verdict → Bool) (g : PlainDtd) (root : List ℕ)
    (lists : List (Listed M)) (n : ℕ) : Type 0 where
  pub verdicts : List Verdict
  pub are_verdicts : AreVerdicts g root lists verdicts
  pub count : n ≡ count_by test verdicts

-- so many of the lists are Possible
abbrev pub HavePossible : {M : Type 0} → PlainDtd → List ℕ → List (Listed M) → ℕ → Type 0
HavePossible g root lists n = HaveCount is_possible g root lists n

-- so many of them are Impossible
abbrev pub HaveImpossible : {M : Type 0} → PlainDtd → List ℕ → List (Listed M) → ℕ → Type 0
HaveImpossible g root lists n = HaveCount is_impossible g root lists n

-- verdicts of lists, and the path of the first impossible list, where there is one
pub record PlainVerdicts : Type 0 where
  pub verdicts : List Verdict
  pub first : Option (List ℕ)

-- these lists have these verdicts
pub record HaveVerdicts {M : Type 0} (g : PlainDtd) (root : List ℕ) (lists : List (Listed M))
    (vs : PlainVerdicts) : Type 0 where
  pub are_verdicts : AreVerdicts g root lists vs.verdicts
  pub is_first : MatchOption vs.first (AllByRecursion (IsLive g root) lists)
      (IsFirstImpossible g root lists)

-- the owner's name is productive
abbrev pub IsProductiveOwner : PlainDtd → Owner → Type 0
IsProductiveOwner g the_document = Unit {0}
IsProductiveOwner g (an_element x) = IsProductiveName g x

abbrev pub IsProductiveNode : {M : Type 0} → PlainDtd → Tree M → Type 0
IsProductiveNode g (element x attrs ending kids mark) = IsProductiveName g x
IsProductiveNode g (text_node units) = Unit {0}
IsProductiveNode g (cdata_node bytes) = Unit {0}
IsProductiveNode g (misc_node bytes) = Unit {0}

-- each element among the kids has a productive name
abbrev pub AreProductiveKids : {M : Type 0} → PlainDtd → Forest M → Type 0
AreProductiveKids g no_trees = Unit {0}
AreProductiveKids g (tree t rest) = IsProductiveNode g t × AreProductiveKids g rest
