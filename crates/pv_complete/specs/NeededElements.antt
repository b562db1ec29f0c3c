-- What is told of a document's missing elements, and why nothing is.
use Rattle.std.specs.Prelude.{List, min, ℕ, ◌<◌, ◌≡◌, ◌≤◌, ◌⊎◌}
use Rattle.std.specs.List.{AllByRecursion}
use Rattle.pv_dtd.specs.Plain.{PlainDtd}
use Rattle.pv_tree.specs.Lists.{IsFirstNot, Listed, lists_of}
use Rattle.pv_tree.specs.Plain.{PlainDoc}
use Rattle.pv_tree.specs.View.{view}
use Rattle.pv_tree.specs.declared.nodes.Verdict.{Verdict}
use Rattle.pv_tree.specs.declared.nodes.Verdict.TheVariants as verdict
use Rattle.pv_rules.specs.Derivations.{heaviest}
use Rattle.pv_missing.specs.Completions.{HasCompletion, IsLeast, IsPotentiallyValid}
use Rattle.pv_missing.specs.Verdicts.{AreVerdicts, IsFirstImpossible, IsVerdict}
use Rattle.pv_missing.specs.ListWeights.{SumIsLeast}
use Rattle.pv_missing.specs.Widths.{IsFirstTooWide, IsListForVerdict, IsListForWeights}
use Rattle.pv_tables.specs.WeightLaws.{LiveWeighs}
use Rattle.pv_complete.specs.declared.errors.NeedError.{NeedError}
use Rattle.pv_complete.specs.declared.errors.NeedError.TheVariants.{Impossible, NoMemory, TooHeavy}
use Rattle.pv_complete.specs.declared.errors.NeedError.TheVariants.{TooMany, TooWide}

-- no list is too wide for a verdict
abbrev pub AreListsForVerdicts : {M : Type 0} → PlainDtd → PlainDoc M → Type 0
AreListsForVerdicts g doc = AllByRecursion (IsListForVerdict g) (lists_of doc)

-- These are the verdicts of the document's lists, of which none is Impossible, or too wide for one.
pub record AreLiveVerdicts {M : Type 0} (g : PlainDtd) (root : List ℕ) (doc : PlainDoc M)
    (vs : List Verdict) : Type 0 where
  pub narrow : AreListsForVerdicts g doc
  pub possible : IsPotentiallyValid g root (view doc.root)
  pub verdicts : AreVerdicts g root (lists_of doc) vs

-- Each list of the document has a verdict.
pub record HasVerdicts {M : Type 0} (g : PlainDtd) (root : List ℕ) (doc : PlainDoc M) : Type 0 where
  pub verdicts : List Verdict
  pub are_verdicts : AreVerdicts g root (lists_of doc) verdicts

-- where the list is Possible, it isn't too wide for weights
abbrev pub CanWeigh : {M : Type 0} → PlainDtd → List ℕ → Listed M → Type 0
CanWeigh g root list = IsVerdict g root list verdict.Possible → IsListForWeights g list

-- where the list is Possible, it isn't too wide for weights, and weighs at most 1,000,000
abbrev pub IsLightList : {M : Type 0} → PlainDtd → List ℕ → Listed M → Type 0
IsLightList g root list = IsVerdict g root list verdict.Possible → IsListForWeights g list ×
    ((k : ℕ) → LiveWeighs g root list k → k < heaviest)

abbrev pub AreLightLists : {M : Type 0} → PlainDtd → List ℕ → List (Listed M) → Type 0
AreLightLists g root lists = AllByRecursion (IsLightList g root) lists

-- Verdicts can be found, none is Impossible, and each Possible list can be weighed.
pub record CanNeed {M : Type 0} (g : PlainDtd) (root : List ℕ) (doc : PlainDoc M) : Type 0 where
  pub narrow : AreListsForVerdicts g doc
  pub possible : IsPotentiallyValid g root (view doc.root)
  pub weighed : AllByRecursion (CanWeigh g root) (lists_of doc)

-- n is the least number of elements whose insertion makes the document valid, and it isn't past the
-- cut
pub record Needs {M : Type 0} (g : PlainDtd) (root : List ℕ) (doc : PlainDoc M) (n : ℕ) :
    Type 0 where
  pub can : CanNeed g root doc
  pub least : IsLeast g root n (view doc.root)
  pub light : n < heaviest

-- Verdicts can be found, and the list at this path is the first that is Impossible.
pub record StopsAtImpossible {M : Type 0} (g : PlainDtd) (root : List ℕ) (doc : PlainDoc M)
    (path : List ℕ) : Type 0 where
  pub narrow : AreListsForVerdicts g doc
  pub first : IsFirstImpossible g root (lists_of doc) path

-- Verdicts can be found, none is Impossible, and the list at this path is the first Possible one
-- that is too wide for weights.
pub record StopsAtWide {M : Type 0} (g : PlainDtd) (root : List ℕ) (doc : PlainDoc M)
    (path : List ℕ) : Type 0 where
  pub narrow : AreListsForVerdicts g doc
  pub possible : IsPotentiallyValid g root (view doc.root)
  pub first : IsFirstNot (CanWeigh g root) (lists_of doc) path

-- All lists can be weighed, and each completion inserts more than 1,000,000 elements.
pub record IsHeavy {M : Type 0} (g : PlainDtd) (root : List ℕ) (doc : PlainDoc M) : Type 0 where
  pub can : CanNeed g root doc
  pub heavy : (n : ℕ) → HasCompletion g root n (view doc.root) → heaviest ≤ n

-- why nothing is told; want of memory has no cause, and too many entries are no cause where no
-- tables are made
abbrev pub HasCause : {M : Type 0} → PlainDtd → List ℕ → PlainDoc M → NeedError → Type 0
HasCause g root doc (Impossible path) = StopsAtImpossible g root doc path
HasCause g root doc (TooWide path) = IsFirstTooWide g (lists_of doc) path ⊎
    StopsAtWide g root doc path
HasCause g root doc TooHeavy = IsHeavy g root doc
HasCause g root doc TooMany = ⊥
HasCause g root doc NoMemory = Unit {0}

-- All lists can be weighed, and k is the sum of the weights of the Possible ones, cut.
pub record WeighsIn {M : Type 0} (g : PlainDtd) (root : List ℕ) (doc : PlainDoc M) (k : ℕ) :
    Type 0 where
  pub can : CanNeed g root doc
  pub sum : ℕ
  pub is_cut : k ≡ min heaviest sum
  pub least : SumIsLeast g root sum (view doc.root)
