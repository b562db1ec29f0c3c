-- The lists that a change of one list changes, and their verdicts.
use Rattle.std.specs.Prelude.{List, [], None, Option, Some, false, length, true, ℕ, ◌++◌}
use Rattle.std.specs.Prelude.{◌∷◌, ◌≡◌}
use Rattle.std.specs.List.{AllByRecursion, between}
use Rattle.pv_cache.specs.declared.updates.InnerVerdict.{InnerVerdict}
use Rattle.pv_dtd.specs.Plain.{PlainDtd}
use Rattle.pv_edit.specs.BroughtElements.{brings_element}
use Rattle.pv_edit.specs.Changes.{Change, in_place_of, list_after}
use Rattle.pv_edit.specs.Inverses.{name_on}
use Rattle.pv_missing.specs.Verdicts.{IsLiveBy, IsVerdict}
use Rattle.pv_missing.specs.Widths.{FitsVerdict}
use Rattle.pv_tree.specs.Lists.{Owner, an_element, the_document}
use Rattle.pv_tree.specs.Places.{list_at, spot_at}
use Rattle.pv_tree.specs.Plain.{Ending, Forest, PlainDoc, Tree, element, forest_of}
use Rattle.pv_tree.specs.Words.{word_of}
use Rattle.pv_tree.specs.declared.nodes.Verdict.{Verdict}
use Rattle.pv_tree.specs.declared.nodes.Verdict.TheVariants as verdict

-- the owner of the list at a path
abbrev pub owner_at : {M : Type 0} → List ℕ → Tree M → Owner
owner_at [] root = the_document
owner_at (i ∷ path) root = an_element (name_on (spot_at (i ∷ path) root))

-- the list at this path isn't Impossible
abbrev pub IsLiveListAt : {M : Type 0} → PlainDtd → List ℕ → PlainDoc M → List ℕ → Type 0
IsLiveListAt {M} g root doc path = (kids : List (Tree M)) → list_at path doc.root ≡ Some kids →
    IsLiveBy g root (owner_at path doc.root) (forest_of kids)

-- This is the first of these paths at which an Impossible list stands.
pub record IsFirstImpossibleAt {M : Type 0} (g : PlainDtd) (root : List ℕ) (doc : PlainDoc M)
    (paths : List (List ℕ)) (path : List ℕ) : Type 0 where
  pub before : List (List ℕ)
  pub after : List (List ℕ)
  pub is_split : paths ≡ before ++ path ∷ after
  pub all_before : AllByRecursion (IsLiveListAt g root doc) before
  pub is_not : IsLiveListAt g root doc path → ⊥

-- The list has this verdict, and isn't too wide for one.
pub record IsJudged {M : Type 0} (g : PlainDtd) (root : List ℕ) (owner : Owner) (kids : Forest M)
    (v : Verdict) : Type 0 where
  pub judged : IsVerdict g root (record { path = []; owner = owner; kids = kids }) v
  pub narrow : FitsVerdict g (length (word_of g kids))

-- what came is one element, whose list has this verdict
pub record IsOneJudged {M : Type 0} (g : PlainDtd) (root : List ℕ) (new : List (Tree M))
    (v : Verdict) : Type 0 where
  pub name : List ℕ
  pub attrs : List ℕ
  pub ending : Ending
  pub kids : Forest M
  pub mark : M
  pub is_one : new ≡ element name attrs ending kids mark ∷ []
  pub list : IsJudged g root (an_element name) kids v

abbrev pub IsInnerJudged : {M : Type 0} → PlainDtd → List ℕ → Change M → List (Tree M) →
    Option InnerVerdict → Type 0
IsInnerJudged g root c new None = brings_element c.filling ≡ false
IsInnerJudged g root c new (Some i) =
    (brings_element c.filling ≡ true) × (i.place ≡ c.from) × IsOneJudged g root new i.verdict

-- These are the verdicts of the lists that a change of these kids changes, none of which is too
-- wide.
pub record AreJudged {M : Type 0} (g : PlainDtd) (root : List ℕ) (owner : Owner)
    (kids : List (Tree M)) (c : Change M) (v : Verdict) (inner : Option InnerVerdict) : Type 0 where
  pub outer : IsJudged g root owner (forest_of (list_after c kids)) v
  pub within : IsInnerJudged g root c (in_place_of c.filling (between c.from c.to kids)) inner

-- The path of the first of the changed lists whose verdict is Impossible: the one at this path, or
-- that of the element which came into it.
pub data IsFirstAmong (list : List ℕ) (v : Verdict) (inner : Option InnerVerdict)
    (path : List ℕ) : Type 0 where
  outer_first : v ≡ verdict.Impossible → path ≡ list → IsFirstAmong list v inner path
  inner_first : (i : InnerVerdict) → (v ≡ verdict.Impossible → ⊥) → inner ≡ Some i →
      i.verdict ≡ verdict.Impossible → path ≡ list ++ i.place ∷ [] →
      IsFirstAmong list v inner path
