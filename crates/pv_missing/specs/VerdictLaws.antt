-- Laws of verdicts, each a statement. M and N are types of marks.
use Rattle.std.specs.Prelude.{Bool, List, Some, slice_get, ℕ, ◌↔◌, ◌≡◌}
use Rattle.std.specs.List.{Contains}
use Rattle.pv_dtd.specs.Plain.{PlainDtd}
use Rattle.pv_tree.specs.Heads.{heads_of}
use Rattle.pv_dtd.specs.Hedge.{IsValid}
use Rattle.pv_dtd.specs.Proper.{IsProperDtd}
use Rattle.pv_tree.specs.Lists.{Listed, lists_of}
use Rattle.pv_tree.specs.Marks.{unmarked_doc}
use Rattle.pv_tree.specs.Plain.{PlainDoc}
use Rattle.pv_tree.specs.View.{view}
use Rattle.pv_tree.specs.Words.{word_of}
use Rattle.pv_missing.specs.Completions.{IsPotentiallyValid}
use Rattle.pv_missing.specs.Proper.{IsProperDoc}
use Rattle.pv_missing.specs.Verdicts.{AreVerdicts, AreVerdictsByNumber, HaveCount}
use Rattle.pv_missing.specs.Verdicts.{IsFirstImpossible, IsFirstVerdict, IsVerdict, impossible_in}
use Rattle.pv_missing.specs.Verdicts.{possible_in}
use Rattle.pv_missing.specs.ListWeights.{site_of}
use Rattle.pv_missing.specs.WordVerdicts.{HoldsOne, IsVerdictByWord, has_no_trees}
use Rattle.pv_tree.specs.declared.nodes.Verdict.{Verdict}
use Rattle.pv_tree.specs.declared.nodes.Verdict.TheVariants as verdict

-- lists have at most one list of verdicts
abbrev pub OneListOfVerdicts : (M : Type 0) → Type 0
OneListOfVerdicts M = (g : PlainDtd) (root : List ℕ) (lists : List (Listed M))
    (vs vs' : List Verdict) →
    AreVerdicts g root lists vs → AreVerdicts g root lists vs' → vs ≡ vs'

-- some verdict is Impossible exactly where there is a first impossible list
abbrev pub ImpossibleHasFirst : (M : Type 0) → Type 0
ImpossibleHasFirst M = (g : PlainDtd) (root : List ℕ) (lists : List (Listed M))
    (vs : List Verdict) →
    AreVerdicts g root lists vs →
    Contains vs verdict.Impossible ↔ ((path : List ℕ) × IsFirstImpossible g root lists path)

-- a verdict looks at the owner and at the heads of the kids alone
abbrev pub VerdictByHeads : (M N : Type 0) → Type 0
VerdictByHeads M N = (g : PlainDtd) (root : List ℕ) (list : Listed M) (other : Listed N)
    (v : Verdict) →
    list.owner ≡ other.owner → heads_of list.kids ≡ heads_of other.kids →
    IsVerdict g root list v ↔ IsVerdict g root other v

-- and of these at the owner's site, at the word, and at whether there are no kids of any kind
abbrev pub VerdictByWord : (M : Type 0) → Type 0
VerdictByWord M = (g : PlainDtd) (root : List ℕ) (list : Listed M) (v : Verdict) →
    HoldsOne list.owner list.kids →
    IsVerdict g root list v ↔ IsVerdictByWord g (site_of g root list.owner)
    (word_of g list.kids) (has_no_trees list.kids) v

-- a document is valid exactly where it is potentially valid and none of its lists is Possible
abbrev pub NonePossible : (M : Type 0) → Type 0
NonePossible M = (g : PlainDtd) (root : List ℕ) (doc : PlainDoc M) (vs : List Verdict) →
    IsProperDtd g → IsProperDoc doc → AreVerdicts g root (lists_of doc) vs →
    IsValid g root (view doc.root) ↔ (IsPotentiallyValid g root (view doc.root) ×
    (possible_in vs ≡ 0))

-- a document is potentially valid exactly where the number of its Impossible lists is 0
abbrev pub NoneImpossible : (M : Type 0) → Type 0
NoneImpossible M = (g : PlainDtd) (root : List ℕ) (doc : PlainDoc M) (vs : List Verdict) →
    IsProperDtd g → IsProperDoc doc → AreVerdicts g root (lists_of doc) vs →
    IsPotentiallyValid g root (view doc.root) ↔ (impossible_in vs ≡ 0)

-- lists have verdicts in their order exactly where each has the verdict of its number
abbrev pub VerdictsByNumber : (M : Type 0) → Type 0
VerdictsByNumber M = (g : PlainDtd) (root : List ℕ) (lists : List (Listed M)) (vs : List Verdict) →
    AreVerdicts g root lists vs ↔ AreVerdictsByNumber g root lists vs

-- the path of the first impossible list is that of the list whose number the first Impossible
-- verdict has
abbrev pub FirstImpossibleAt : (M : Type 0) → Type 0
FirstImpossibleAt M = (g : PlainDtd) (root path : List ℕ) (lists : List (Listed M))
    (vs : List Verdict) → AreVerdicts g root lists vs →
    IsFirstImpossible g root lists path ↔
    ((k : ℕ) × (list : Listed M) × IsFirstVerdict verdict.Impossible vs k ×
    (slice_get lists k ≡ Some list) × (path ≡ list.path))

-- at most one number of lists has verdicts that pass a test
abbrev pub OneCount : (M : Type 0) → Type 0
OneCount M = (test : Verdict → Bool) (g : PlainDtd) (root : List ℕ) (lists : List (Listed M))
    (m n : ℕ) → HaveCount test g root lists m → HaveCount test g root lists n → m ≡ n

-- and it is the same whatever the marks of the document are
abbrev pub SameCounts : (M N : Type 0) → Type 0
SameCounts M N = (test : Verdict → Bool) (g : PlainDtd) (root : List ℕ) (doc : PlainDoc M)
    (other : PlainDoc N) (n : ℕ) → unmarked_doc doc ≡ unmarked_doc other →
    HaveCount test g root (lists_of doc) n → HaveCount test g root (lists_of other) n

-- and so are the verdicts
abbrev pub SameVerdicts : (M N : Type 0) → Type 0
SameVerdicts M N = (g : PlainDtd) (root : List ℕ) (doc : PlainDoc M) (other : PlainDoc N)
    (vs : List Verdict) → unmarked_doc doc ≡ unmarked_doc other →
    AreVerdicts g root (lists_of doc) vs → AreVerdicts g root (lists_of other) vs
