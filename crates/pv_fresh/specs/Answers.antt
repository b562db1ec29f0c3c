-- Why a check of a document gives no verdicts, and when it gives verdicts of which none is
-- Impossible; what a check of all lists answers, by one thread or several.
use Rattle.std.specs.Prelude.{IfErr, IfOk, IsNone, List, OnOk, Result, length}
use Rattle.std.specs.Prelude.{◌+◌, ◌≡◌, ◌≤◌, ◌↔◌, ℕ}
use Rattle.std.specs.List.{AllByRecursion}
use Rattle.pv_dtd.specs.Plain.{PlainDtd}
use Rattle.pv_tree.specs.Lists.{lists_of}
use Rattle.pv_tree.specs.Plain.{PlainDoc}
use Rattle.pv_tree.specs.View.{view}
use Rattle.pv_missing.specs.Completions.{IsPotentiallyValid}
use Rattle.pv_missing.specs.Verdicts.{HaveVerdicts, IsFirstImpossible, PlainVerdicts}
use Rattle.pv_missing.specs.Widths.{IsFirstTooWide, IsListForVerdict}
use Rattle.pv_fresh.specs.declared.errors.FreshError.{FreshError}
use Rattle.pv_fresh.specs.declared.errors.FreshError.TheVariants.{NoMemory, TooWide}
use Rattle.pv_fresh.specs.declared.errors.PossibleError.{PossibleError}
use Rattle.pv_fresh.specs.declared.errors.PossibleError.TheVariants as refused

-- a list is too wide, and the path is that of the first; want of memory has no cause
abbrev pub HasCause : {M : Type 0} → PlainDtd → PlainDoc M → FreshError → Type 0
HasCause g doc (TooWide path) = IsFirstTooWide g (lists_of doc) path
HasCause g doc NoMemory = Unit {0}

-- FindsVerdicts: a check that gives verdicts gives those of all lists, in document order, and the
-- path of the first Impossible one
abbrev pub FindsVerdicts : {M : Type 0} → PlainDtd → List ℕ → PlainDoc M →
    Result PlainVerdicts FreshError → Type 0
FindsVerdicts g root doc result = IfOk result (HaveVerdicts g root (lists_of doc))

-- FindsPossible: there is no such path exactly where the document is potentially valid
abbrev pub FindsPossible : {M : Type 0} → PlainDtd → List ℕ → PlainDoc M →
    Result PlainVerdicts FreshError → Type 0
FindsPossible g root doc result =
    IfOk result (λ vs. IsNone vs.first ↔ IsPotentiallyValid g root (view doc.root))

-- FindsNarrow: a check gives verdicts only where no list is too wide
abbrev pub FindsNarrow : {M : Type 0} → PlainDtd → PlainDoc M → Result PlainVerdicts FreshError →
    Type 0
FindsNarrow g doc result = OnOk result (AllByRecursion (IsListForVerdict g) (lists_of doc))

-- FindsCause: a check that gives none has a cause
abbrev pub FindsCause : {M : Type 0} → PlainDtd → PlainDoc M → Result PlainVerdicts FreshError →
    Type 0
FindsCause g doc result = IfErr result (HasCause g doc)

-- CountsLists: a check that gives verdicts takes one step for each list
abbrev pub CountsLists : {M : Type 0} → PlainDoc M → ℕ → ℕ → Result PlainVerdicts FreshError →
    Type 0
CountsLists doc from to result = OnOk result (to ≡ from + length (lists_of doc))

-- CountsFewLists: a check takes no more steps than there are lists
abbrev pub CountsFewLists : {M : Type 0} → PlainDoc M → ℕ → ℕ → Type 0
CountsFewLists doc from to = to ≤ from + length (lists_of doc)

-- No list is too wide, inserting elements can make the document valid, and these are the verdicts
-- of its lists.
pub record HasPossibility {M : Type 0} (root : List ℕ) (g : PlainDtd) (doc : PlainDoc M)
    (vs : PlainVerdicts) : Type 0 where
  pub narrow : AllByRecursion (IsListForVerdict g) (lists_of doc)
  pub possible : IsPotentiallyValid g root (view doc.root)
  pub verdicts : HaveVerdicts g root (lists_of doc) vs
  pub none_impossible : IsNone vs.first

-- No list is too wide, no insertions can make the document valid, and the path is that of the first
-- impossible list.
pub record IsImpossibleAt {M : Type 0} (root : List ℕ) (g : PlainDtd) (doc : PlainDoc M)
    (path : List ℕ) : Type 0 where
  pub narrow : AllByRecursion (IsListForVerdict g) (lists_of doc)
  pub impossible : IsPotentiallyValid g root (view doc.root) → ⊥
  pub first : IsFirstImpossible g root (lists_of doc) path

-- a list is too wide, and the path is that of the first; or the document is impossible; want of
-- memory has no cause
abbrev pub DeniesVerdicts : {M : Type 0} → List ℕ → PlainDtd → PlainDoc M → PossibleError → Type 0
DeniesVerdicts root g doc (refused.TooWide path) = IsFirstTooWide g (lists_of doc) path
DeniesVerdicts root g doc (refused.Impossible path) = IsImpossibleAt root g doc path
DeniesVerdicts root g doc refused.NoMemory = Unit {0}
