-- Laws of whole documents, each a statement. M is the type of a document's marks, and N that of its
-- completion's.
use Rattle.std.specs.Prelude.{List, false, length, ℕ, ◌+◌, ◌↔◌, ◌≡◌, ◌≢◌, ◌≤◌}
use Rattle.std.specs.List.{AllByRecursion}
use Rattle.pv_dtd.specs.Plain.{PlainDtd}
use Rattle.pv_dtd.specs.Hedge.{Hedge, IsValid, done, elem, elements}
use Rattle.pv_tree.specs.Lists.{lists_of}
use Rattle.pv_tree.specs.Plain.{PlainDoc}
use Rattle.pv_tree.specs.View.{view}
use Rattle.pv_missing.specs.Completions.{Completes, HasCompletion, IsPotentiallyValid, LeavesOut}
use Rattle.pv_dtd.specs.Proper.{IsProperDtd}
use Rattle.pv_missing.specs.Proper.{IsProperDoc}
use Rattle.pv_missing.specs.Extensions.{Extends, leaves_of}
use Rattle.pv_missing.specs.Levels.{Inserts, IsCompleted, IsGoodExtension}
use Rattle.pv_missing.specs.MissingNumbers.{MissInAll}
use Rattle.pv_missing.specs.SameMissing.{SameMissing, bare, uncut}
use Rattle.pv_missing.specs.Verdicts.{AreVerdicts, HavePossible, IsLive}
use Rattle.pv_missing.specs.ListWeights.{AscendBounds, BoundAt, BoundInAll, IsBoundAt, SumIsLeast}
use Rattle.pv_missing.specs.ListWeights.{WeighInAll, sum_of_bounds}
use Rattle.pv_tree.specs.declared.nodes.Verdict.{Verdict}
use Rattle.pv_tree.specs.declared.nodes.Verdict.TheVariants as verdict

-- a document is potentially valid exactly where each of its lists is live, at any depth
abbrev pub IsPotentiallyValidByLists : (M : Type 0) → Type 0
IsPotentiallyValidByLists M = (g : PlainDtd) (root : List ℕ) (doc : PlainDoc M) →
    IsProperDtd g → IsProperDoc doc →
    IsPotentiallyValid g root (view doc.root) ↔ AllByRecursion (IsLive g root) (lists_of doc)

-- so, where the lists have these verdicts, exactly where none of them is Impossible
abbrev pub Locality : (M : Type 0) → Type 0
Locality M = (g : PlainDtd) (root : List ℕ) (doc : PlainDoc M) (vs : List Verdict) →
    IsProperDtd g → IsProperDoc doc → AreVerdicts g root (lists_of doc) vs →
    IsPotentiallyValid g root (view doc.root) ↔ AllByRecursion (λ v. v ≢ verdict.Impossible) vs

-- n elements can be inserted to make it valid exactly where n are missing in its lists in all
abbrev pub NumbersAddUp : (M : Type 0) → Type 0
NumbersAddUp M = (g : PlainDtd) (root : List ℕ) (doc : PlainDoc M) (n : ℕ) →
    IsProperDtd g → IsProperDoc doc →
    HasCompletion g root n (view doc.root) ↔ MissInAll g root (lists_of doc) n

-- the weights of the lists add up to the least number
abbrev pub WeightsAddUp : (M : Type 0) → Type 0
WeightsAddUp M = (g : PlainDtd) (root : List ℕ) (doc : PlainDoc M) (s : ℕ) →
    IsProperDtd g → IsProperDoc doc → IsPotentiallyValid g root (view doc.root) →
    WeighInAll g root (lists_of doc) s → SumIsLeast g root s (view doc.root)

-- a sum of bounds of the lists is at most the number of each completion
abbrev pub BoundsAddUp : (M : Type 0) → Type 0
BoundsAddUp M = (g : PlainDtd) (root : List ℕ) (doc : PlainDoc M) (s : ℕ) →
    IsProperDtd g → IsProperDoc doc → BoundInAll g root (lists_of doc) s →
    (n : ℕ) → HasCompletion g root n (view doc.root) → s ≤ n

-- So is the number of its Possible lists.
abbrev pub PossibleAreMissing : (M : Type 0) → Type 0
PossibleAreMissing M = (g : PlainDtd) (root : List ℕ) (doc : PlainDoc M) (possible : ℕ) →
    IsProperDtd g → IsProperDoc doc → HavePossible g root (lists_of doc) possible →
    (n : ℕ) → HasCompletion g root n (view doc.root) → possible ≤ n

-- So is a sum of bounds at ascending paths of some of the lists.
abbrev pub SomeBounds : (M : Type 0) → Type 0
SomeBounds M = (g : PlainDtd) (root : List ℕ) (doc : PlainDoc M) (bs : List BoundAt) →
    IsProperDtd g → IsProperDoc doc → AscendBounds bs →
    AllByRecursion (IsBoundAt g root (lists_of doc)) bs →
    (n : ℕ) → HasCompletion g root n (view doc.root) → sum_of_bounds bs ≤ n

-- potentially valid means that some number of elements can be inserted
abbrev pub SomeNumber : Type 0
SomeNumber = (g : PlainDtd) (root : List ℕ) (h : Hedge) →
    IsPotentiallyValid g root h ↔ ((n : ℕ) × HasCompletion g root n h)

-- whether texts may be cut changes nothing
abbrev pub CutsChangeNothing : (M : Type 0) → Type 0
CutsChangeNothing M = (g : PlainDtd) (root : List ℕ) (doc : PlainDoc M) →
    IsProperDtd g → IsProperDoc doc → SameMissing g root (view doc.root) (uncut doc.root)

-- white units and misc outside EMPTY elements change nothing
abbrev pub BlanksChangeNothing : Type 0
BlanksChangeNothing = (g : PlainDtd) (root x t : List ℕ) (k : Hedge) → IsProperDtd g →
    SameMissing g root (elem x t k done) (bare g false (elem x t k done))

-- elements whose tags can be left out make an extension by as many, and each extension can be shown
-- so
abbrev pub TagsExtend : Type 0
TagsExtend = (m e : ℕ) (added : List ℕ) (h h' : Hedge) → LeavesOut m e added h h' →
    Extends h h' × (elements h' ≡ length added + elements h) × (e ≡ m + elements h')

abbrev pub ExtensionsHaveTags : Type 0
ExtensionsHaveTags = (m : ℕ) (h h' : Hedge) → Extends h h' →
    (added : List ℕ) × LeavesOut m (m + elements h') added h h'

-- A good extension by n elements is what is made level by level, by n elements in all: declared
-- elements with content that fits them stand at this level, and each element that was there is good
-- with the content that it got.
abbrev pub LevelsAgree : Type 0
LevelsAgree = (g : PlainDtd) (n : ℕ) (h h' : Hedge) →
    Inserts g (IsCompleted g) n h h' ↔ IsGoodExtension g n h h'

-- an extension keeps all leaves, in their order
abbrev pub KeepsLeaves : Type 0
KeepsLeaves = (h h' : Hedge) → Extends h h' → leaves_of h' ≡ leaves_of h

-- a completion inserts so many elements, and whatever valid document extends another completes it
abbrev pub CompletionsInsert : (M N : Type 0) → Type 0
CompletionsInsert M N = (g : PlainDtd) (root : List ℕ) (doc : PlainDoc M) (body : PlainDoc N)
    (added : List ℕ) (k : ℕ) → Completes g root doc body added k →
    HasCompletion g root k (view doc.root)

abbrev pub ExtensionsComplete : (M N : Type 0) → Type 0
ExtensionsComplete M N = (g : PlainDtd) (root : List ℕ) (doc : PlainDoc M) (body : PlainDoc N) →
    IsValid g root (view body.root) → Extends (view doc.root) (view body.root) →
    body.before ≡ doc.before → body.after ≡ doc.after →
    (added : List ℕ) × (k : ℕ) × Completes g root doc body added k
