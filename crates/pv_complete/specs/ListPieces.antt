-- The pieces of each list of a document, found one list after the other.
use Rattle.std.specs.Prelude.{List, Option, Some, [], ℕ, drop, ◌+◌, ◌++◌, ◌∷◌, ◌≡◌, ◌≢◌, ◌⊎◌}
use Rattle.std.specs.List.{AllByRecursion}
use Rattle.pv_model.specs.Plain.{PlainToken}
use Rattle.pv_dtd.specs.Plain.{PlainDtd}
use Rattle.pv_rules.specs.Sites.{PlainSite}
use Rattle.pv_tree.specs.Lists.{Listed, lists_of}
use Rattle.pv_tree.specs.Plain.{Forest, PlainDoc}
use Rattle.pv_tree.specs.Words.{word_of}
use Rattle.pv_tree.specs.declared.nodes.Mark.{Mark}
use Rattle.pv_tree.specs.declared.nodes.Verdict.{Verdict}
use Rattle.pv_tree.specs.declared.nodes.Verdict.TheVariants as verdict
use Rattle.pv_write.specs.Pieces.{PlainPiece, kept}
use Rattle.pv_missing.specs.Owners.{IsOwner}
use Rattle.pv_missing.specs.Verdicts.{AreVerdicts, IsLive}
use Rattle.pv_missing.specs.ListWeights.{site_of}
use Rattle.pv_missing.specs.declared.owners.Of.{Of}
use Rattle.pv_tables.specs.WeightLaws.{PossibleWeigh}
use Rattle.pv_complete.specs.NeededElements.{AreLightLists, IsLightList}
use Rattle.pv_complete.specs.Pieces.{WritesAt}

-- no list is Impossible
abbrev pub AreNotImpossible : List Verdict → Type 0
AreNotImpossible vs = AllByRecursion (λ v. v ≢ verdict.Impossible) vs

-- a piece for each token of a word, all of them kept
abbrev pub kept_for : List PlainToken → List PlainPiece
kept_for [] = []
kept_for (token ∷ w) = kept ∷ kept_for w

-- The pieces stand for these others: for themselves, or for a word that is kept in whole, where
-- there are none.
abbrev pub StandFor : List PlainPiece → List PlainPiece → List PlainToken → Type 0
StandFor ps all w = (all ≡ ps) ⊎ ((ps ≡ []) × (all ≡ kept_for w))

-- The pieces make the word of a list's nodes into one that its owner allows, by so many new
-- elements.
pub record ArePiecesOf (g : PlainDtd) (root : List ℕ) (list : Listed Mark) (ps : List PlainPiece)
    (count : ℕ) : Type 0 where
  pub site : PlainSite
  pub is_site : site_of g root list.owner ≡ Some site
  pub live : IsLive g root list
  pub all : List PlainPiece
  pub stand : StandFor ps all (word_of g list.kids)
  pub writes : WritesAt g site count (word_of g list.kids) all

-- the pieces of the lists come first among these, and add so many new elements in all
abbrev pub HavePieces : PlainDtd → List ℕ → List (Listed Mark) → List (List PlainPiece) → ℕ → Type 0
HavePieces g root [] qs n = n ≡ 0
HavePieces g root (list ∷ lists) qs n = (ps : List PlainPiece) × (rest : List (List PlainPiece)) ×
    (a : ℕ) × (b : ℕ) × (qs ≡ ps ∷ rest) × (n ≡ a + b) × ArePiecesOf g root list ps a ×
    HavePieces g root lists rest b

-- These are pieces of the lists, and add as many elements as the Possible ones weigh.
pub record ArePieces (g : PlainDtd) (root : List ℕ) (lists : List (Listed Mark)) (vs : List Verdict)
    (qs : List (List PlainPiece)) : Type 0 where
  pub sum : ℕ
  pub have : HavePieces g root lists qs sum
  pub weigh : PossibleWeigh g root lists vs sum

-- The pieces are those of the list, whose verdict comes first among those that aren't used yet.
pub record AreNextPieces (g : PlainDtd) (root : List ℕ) (list : Listed Mark)
    (more : List (Listed Mark)) (vs : List Verdict) (old new : ℕ) (ps : List PlainPiece) :
    Type 0 where
  pub count : ℕ
  pub are : ArePiecesOf g root list ps count
  pub left : AreVerdicts g root more (drop new vs)
  pub weigh : (b : ℕ) → PossibleWeigh g root more (drop new vs) b →
      PossibleWeigh g root (list ∷ more) (drop old vs) (count + b)

-- The list of these kids is next among those whose verdicts aren't used yet, and is light.
pub record HasNextList (g : PlainDtd) (owner : Option Of) (kids : Forest Mark) (vs : List Verdict)
    (used : ℕ) : Type 0 where
  pub root : List ℕ
  pub list : Listed Mark
  pub more : List (Listed Mark)
  pub is_kids : list.kids ≡ kids
  pub is_owner : IsOwner g root list owner
  pub verdicts : AreVerdicts g root (list ∷ more) (drop used vs)
  pub light : IsLightList g root list

-- these are the verdicts of a document's lists, and the Possible ones are light
pub record AreLightVerdicts (g : PlainDtd) (root : List ℕ) (doc : PlainDoc Mark)
    (vs : List Verdict) : Type 0 where
  pub verdicts : AreVerdicts g root (lists_of doc) vs
  pub light : AreLightLists g root (lists_of doc)

-- So far pieces of some of all lists are found. With those of the lists that are left, whose
-- verdicts aren't used yet, they are the pieces of all.
pub record HaveFound (g : PlainDtd) (root : List ℕ) (all left : List (Listed Mark))
    (vs : List Verdict) (used : ℕ) (ps : List (List PlainPiece)) : Type 0 where
  pub verdicts : AreVerdicts g root left (drop used vs)
  pub goes_on : (qs : List (List PlainPiece)) → ArePieces g root left (drop used vs) qs →
      ArePieces g root all vs (ps ++ qs)
