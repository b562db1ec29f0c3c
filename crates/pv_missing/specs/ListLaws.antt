-- Laws of one list, each a statement. M is the type of marks.
use Rattle.std.specs.Prelude.{List, Some, ℕ, ◌+◌, ◌↔◌, ◌<◌, ◌≡◌, ◌≤◌}
use Rattle.pv_model.specs.Plain.{PlainModel, PlainToken, empty}
use Rattle.pv_dtd.specs.Plain.{PlainDtd, model_of}
use Rattle.pv_dtd.specs.Hedge.{Hedge, done, elements, word}
use Rattle.pv_tree.specs.Lists.{IsValidList, Listed}
use Rattle.pv_tree.specs.Plain.{Forest}
use Rattle.pv_missing.specs.Covers.{IsPossibleRootWith, IsPossibleWith}
use Rattle.pv_dtd.specs.Proper.{IsProperDtd}
use Rattle.pv_missing.specs.Extensions.{Extends}
use Rattle.pv_missing.specs.LiveWords.{IsLiveWord}
use Rattle.pv_missing.specs.Levels.{CanFit, CanFitRoot, InsertsHere}
use Rattle.pv_dtd.specs.Productive.{AreProductive}
use Rattle.pv_missing.specs.Verdicts.{AreProductiveKids, IsFirstImpossible, IsLive}
use Rattle.pv_missing.specs.Verdicts.{IsProductiveOwner, IsVerdict}
use Rattle.pv_missing.specs.MissingNumbers.{Misses}
use Rattle.pv_missing.specs.ListWeights.{IsBound, Weighs, site_of, whole}
use Rattle.pv_missing.specs.WordVerdicts.{HoldsOne}
use Rattle.pv_rules.specs.Derivations.{Derives, IsClosed, heaviest}
use Rattle.pv_rules.specs.Rules.{Goal, IsKnownWord, Rule}
use Rattle.pv_rules.specs.Sites.{PlainSite}
use Rattle.pv_tree.specs.Words.{word_of}
use Rattle.pv_tree.specs.declared.nodes.Verdict.{Verdict}
use Rattle.pv_tree.specs.declared.nodes.Verdict.TheVariants as verdict

-- The live word of an element's content is possible, with n elements missing, exactly where n
-- elements inserted at its level make the content fit. Of the elements there each has a productive
-- name, and an EMPTY element has no content.
abbrev pub OneList : Type 0
OneList = (g : PlainDtd) (x n : ℕ) (m : PlainModel) (h : Hedge) (live : List PlainToken) →
    IsProperDtd g → model_of g x ≡ Some m →
    (m ≡ empty → h ≡ done) → AreProductive g h → IsLiveWord g (word g h) live →
    IsPossibleWith g x n live ↔ CanFit g m n h

-- The live word of the document node is possible, with n elements missing, exactly where n elements
-- inserted at its level make it fit. Of the elements there each has a productive name.
abbrev pub RootList : Type 0
RootList = (g : PlainDtd) (y n : ℕ) (h : Hedge) (live : List PlainToken) → IsProperDtd g →
    AreProductive g h → IsLiveWord g (word g h) live →
    IsPossibleRootWith g y n live ↔ CanFitRoot g y n h

-- what is inserted at one level is an extension by as many elements
abbrev pub HereExtends : Type 0
HereExtends = (g : PlainDtd) (n : ℕ) (h h' : Hedge) → InsertsHere g n h h' →
    Extends h h' × (elements h' ≡ n + elements h)

-- a list that is valid by itself, whose owner and names are productive, is live
abbrev pub OwnValidIsLive : (M : Type 0) → Type 0
OwnValidIsLive M = (g : PlainDtd) (root : List ℕ) (list : Listed M) →
    IsValidList g root list → IsProductiveOwner g list.owner → AreProductiveKids g list.kids →
    IsLive g root list

-- a list is live exactly where some number of elements is missing in it
abbrev pub LiveMisses : (M : Type 0) → Type 0
LiveMisses M = (g : PlainDtd) (root : List ℕ) (list : Listed M) →
    IsLive g root list ↔ ((n : ℕ) × Misses g root list n)

-- in a Valid list nothing is missing, and it weighs 0
abbrev pub ValidMissesNone : (M : Type 0) → Type 0
ValidMissesNone M = (g : PlainDtd) (root : List ℕ) (list : Listed M) →
    IsProperDtd g → IsVerdict g root list verdict.Valid →
    Misses g root list 0 × Weighs g root list 0

-- and a list in which nothing is missing is valid by itself
abbrev pub NoneMissingIsValid : (M : Type 0) → Type 0
NoneMissingIsValid M = (g : PlainDtd) (root : List ℕ) (list : Listed M) →
    HoldsOne list.owner list.kids → Misses g root list 0 → IsValidList g root list

-- The whole word of a live list has a derivation of a weight only where so many elements are
-- missing in the list; where n are missing, it has one that weighs no more.
abbrev pub DerivationsMiss : (M : Type 0) → Type 0
DerivationsMiss M = (g : PlainDtd) (root : List ℕ) (list : Listed M) (s : PlainSite) (n : ℕ) →
    IsProperDtd g → IsLive g root list → site_of g root list.owner ≡ Some s →
    (Derives (Rule g (word_of g list.kids)) n (whole s (word_of g list.kids)) →
    Misses g root list n) ×
    (Misses g root list n →
    (m : ℕ) × (m ≤ n) × Derives (Rule g (word_of g list.kids)) m (whole s (word_of g list.kids)))

-- the value of a closed table at the whole word of a list is a bound
abbrev pub ClosedIsBound : (M : Type 0) → Type 0
ClosedIsBound M = (g : PlainDtd) (root : List ℕ) (list : Listed M) (s : PlainSite) (t : Goal → ℕ) →
    IsProperDtd g → site_of g root list.owner ≡ Some s → IsClosed (Rule g (word_of g list.kids)) t →
    IsBound g root list (t (whole s (word_of g list.kids)))

-- The weight of a live list is at most each number of elements missing in it, and is such a number
-- where it isn't cut.
abbrev pub WeightIsLeast : (M : Type 0) → Type 0
WeightIsLeast M = (g : PlainDtd) (root : List ℕ) (list : Listed M) (n k : ℕ) →
    IsProperDtd g → Misses g root list n → Weighs g root list k →
    (k ≤ n) × (k < heaviest → Misses g root list k)

-- a list has at most one verdict
abbrev pub OneVerdict : (M : Type 0) → Type 0
OneVerdict M = (g : PlainDtd) (root : List ℕ) (list : Listed M) (v v' : Verdict) →
    IsVerdict g root list v → IsVerdict g root list v' → v ≡ v'

-- lists have at most one first impossible one
abbrev pub OneFirst : (M : Type 0) → Type 0
OneFirst M = (g : PlainDtd) (root : List ℕ) (lists : List (Listed M)) (p q : List ℕ) →
    IsFirstImpossible g root lists p → IsFirstImpossible g root lists q → p ≡ q

-- the DTD has each name in the word of a list
abbrev pub KnownWord : (M : Type 0) → Type 0
KnownWord M = (g : PlainDtd) (kids : Forest M) → IsKnownWord g (word_of g kids)
