-- Whether inserting elements can make a document valid: the width of its lists, and the verdict.
use Rattle.std.specs.Prelude.{◌≡◌, ◌↔◌, ℕ, zero, suc, IsNone, List, ◌++◌, codes, decimal}
use Rattle.std.specs.List.{AllByRecursion}
use Rattle.pv_dtd.specs.Plain.{PlainDtd}
use Rattle.pv_tree.specs.Lists.{lists_of}
use Rattle.pv_tree.specs.Plain.{PlainDoc}
use Rattle.pv_tree.specs.View.{view}
use Rattle.pv_tree.specs.declared.nodes.Mark.{Mark}
use Rattle.pv_missing.specs.Completions.{IsPotentiallyValid}
use Rattle.pv_missing.specs.Verdicts.{HavePossible, HaveVerdicts, IsFirstImpossible, PlainVerdicts}
use Rattle.pv_missing.specs.Widths.{IsFirstTooWide, IsListForVerdict}
use Rattle.pv_words.specs.Paths.{path_text}
use Rattle.pv_opening.specs.declared.status.Status.TheVariants.{Done, Limit, Negative}
use Rattle.pv_opening.specs.Response.{PlainResponse, with_line}
use Rattle.pv_opening.specs.Stage.{Stage, followed_by, test_stage}

-- no list of the document is too wide for a verdict
abbrev pub AreAllNarrow : {M : Type 0} → PlainDtd → PlainDoc M → Type 0
AreAllNarrow g doc = AllByRecursion (IsListForVerdict g) (lists_of doc)

-- No list is too wide, and these are the verdicts of all lists; none is Impossible exactly where
-- inserting elements can make the document valid.
pub record AreVerdictsOf (root : List ℕ) (g : PlainDtd) (doc : PlainDoc Mark) (vs : PlainVerdicts) :
    Type 0 where
  pub narrow : AreAllNarrow g doc
  pub verdicts : HaveVerdicts g root (lists_of doc) vs
  pub possible : IsNone vs.first ↔ IsPotentiallyValid g root (view doc.root)

-- this is the path of the first list that is too wide
pub data RefusesWidth (g : PlainDtd) (doc : PlainDoc Mark) (r : PlainResponse) : Type 0 where
  is_too_wide : (path : List ℕ) → IsFirstTooWide g (lists_of doc) path →
      r ≡ with_line Limit (codes "limit width " ++ path_text path) → RefusesWidth g doc r

-- the test of the width of all lists
abbrev pub width_stage : PlainDtd → PlainDoc Mark → Stage (Unit {0})
width_stage g doc = test_stage (AreAllNarrow g doc) (RefusesWidth g doc)

-- no insertions can make the document valid, and this is the path of the first impossible list
pub data RefusesImpossible (root : List ℕ) (g : PlainDtd) (doc : PlainDoc Mark)
    (r : PlainResponse) : Type 0 where
  is_impossible : (path : List ℕ) → (IsPotentiallyValid g root (view doc.root) → ⊥) →
      IsFirstImpossible g root (lists_of doc) path →
      r ≡ with_line Negative (codes "impossible " ++ path_text path) →
      RefusesImpossible root g doc r

-- the test that inserting elements can make the document valid
abbrev pub verdict_stage : List ℕ → PlainDtd → PlainDoc Mark → Stage (Unit {0})
verdict_stage root g doc =
    test_stage (IsPotentiallyValid g root (view doc.root)) (RefusesImpossible root g doc)

-- both tests, in the order of work
abbrev pub possibility_stage : List ℕ → PlainDtd → PlainDoc Mark → Stage (Unit {0})
possibility_stage root g doc = followed_by (width_stage g doc) (λ _. verdict_stage root g doc)

-- so many lists are Possible, and none is Impossible
abbrev pub possible_text : ℕ → List ℕ
possible_text zero = codes "valid"
possible_text (suc n) = codes "possible " ++ decimal (suc n)

-- Inserting elements can make the document valid, and so many of its lists are Possible. Or it
-- can't, and this is the path of the first impossible list.
pub data TellsPossibility (root : List ℕ) (g : PlainDtd) (doc : PlainDoc Mark) (r : PlainResponse)
    : Type 0 where
  is_possible : (n : ℕ) → IsPotentiallyValid g root (view doc.root) →
      HavePossible g root (lists_of doc) n →
      r ≡ with_line Done (possible_text n) → TellsPossibility root g doc r
  is_no_more : RefusesImpossible root g doc r → TellsPossibility root g doc r
