-- What a denial is judged to be: its tests, in their order.
use Rattle.std.specs.Prelude.{List, Some, [], length, ℕ, ◌≡◌, ◌⊎◌}
use Rattle.std.specs.List.{Contains}
use Rattle.pv_model.specs.Plain.{PlainToken}
use Rattle.pv_dtd.specs.Plain.{PlainDtd}
use Rattle.pv_rules.specs.Sites.{PlainSite}
use Rattle.pv_tree.specs.Lists.{Listed, lists_of}
use Rattle.pv_tree.specs.Plain.{PlainDoc}
use Rattle.pv_missing.specs.LiveWords.{IsLiveWord}
use Rattle.pv_missing.specs.ListWeights.{site_of}
use Rattle.pv_missing.specs.Widths.{IsListForVerdict}
use Rattle.pv_tree.specs.Words.{word_of}
use Rattle.pv_denial.specs.Causes.{HoldsOfList}
use Rattle.pv_denial.specs.Rows.{AreBarrierRows, row_value}
use Rattle.pv_denial.specs.declared.denials.Cause.TheVariants as cause
use Rattle.pv_denial.specs.declared.denials.Denial.{Denial}
use Rattle.pv_denial.specs.declared.denials.Row.{Row}
use Rattle.pv_denial.specs.declared.denials.Flaw.{Flaw}
use Rattle.pv_denial.specs.declared.denials.Flaw.TheVariants as flaw
use Rattle.pv_denial.specs.declared.denials.Judged.{Judged}
use Rattle.pv_denial.specs.declared.denials.Judged.TheVariants as judged

-- the list of a document that a denial is about
pub record IsAbout {M : Type 0} (doc : PlainDoc M) (d : Denial) (list : Listed M) : Type 0 where
  pub is_listed : Contains (lists_of doc) list
  pub is_path : list.path ≡ d.path

-- it isn't too wide for its word to be judged
abbrev pub IsNarrowFor : {M : Type 0} → PlainDtd → Denial → Listed M → Type 0
IsNarrowFor g d list = d.cause ≡ cause.Word → IsListForVerdict g list

-- the cause holds, and only that of the word has rows
pub record IsRightCause {M : Type 0} (g : PlainDtd) (root : List ℕ) (d : Denial) (list : Listed M)
    : Type 0 where
  pub holds : HoldsOfList g root list d.cause
  pub rows : (d.cause ≡ cause.Word) ⊎ (d.rows ≡ [])

-- the rows are a barrier for the live word
abbrev pub IsRightTable : {M : Type 0} → PlainDtd → Denial → Listed M → Type 0
IsRightTable g d list = d.cause ≡ cause.Word → (w : List PlainToken) →
    IsLiveWord g (word_of g list.kids) w → AreBarrierRows g w d.rows

-- the row of the owner's site leads from the first token to after the last
pub record IsReached {M : Type 0} (g : PlainDtd) (root : List ℕ) (d : Denial) (list : Listed M)
    : Type 0 where
  pub by_word : d.cause ≡ cause.Word
  pub site : PlainSite
  pub is_site : site_of g root list.owner ≡ Some site
  pub is_value : row_value d.rows site 0 ≡ Some (length (word_of g list.kids))

-- the first test that the list fails
abbrev pub FailsAt : {M : Type 0} → PlainDtd → List ℕ → Denial → Listed M → Flaw → Type 0
FailsAt g root d list flaw.List = ⊥
FailsAt g root d list flaw.Cause = IsNarrowFor g d list × ¬ IsRightCause g root d list
FailsAt g root d list flaw.Table =
    IsNarrowFor g d list × IsRightCause g root d list × ¬ IsRightTable g d list
FailsAt g root d list flaw.Reached = IsNarrowFor g d list × IsRightCause g root d list ×
    IsRightTable g d list × IsReached g root d list

-- it passes all tests, or fails one first
abbrev pub JudgesAt : {M : Type 0} → PlainDtd → List ℕ → Denial → Listed M → Judged → Type 0
JudgesAt g root d list judged.Denied = IsNarrowFor g d list × IsRightCause g root d list ×
    IsRightTable g d list × ¬ IsReached g root d list
JudgesAt g root d list (judged.Rejected f) = FailsAt g root d list f

-- A denial is rejected where it names no list; and else denied where the list passes all
-- tests, or rejected for the first that it fails.
abbrev pub IsDenialJudged : {M : Type 0} → PlainDtd → List ℕ → PlainDoc M → Denial → Judged → Type 0
IsDenialJudged {M} g root doc d j =
    (((list : Listed M) → ¬ IsAbout doc d list) × (j ≡ judged.Rejected flaw.List)) ⊎
    ((list : Listed M) × IsAbout doc d list × JudgesAt g root d list j)

-- The list of a denial is too wide for its word to be judged.
abbrev pub IsTooWideFor : {M : Type 0} → PlainDtd → PlainDoc M → Denial → Type 0
IsTooWideFor {M} g doc d = (list : Listed M) × IsAbout doc d list × (d.cause ≡ cause.Word) ×
    ¬ IsListForVerdict g list

-- what rows say of a word at the site of an owner
abbrev pub JudgesRows : PlainDtd → PlainSite → List PlainToken → List Row → Judged → Type 0
JudgesRows g s w rows judged.Denied =
    AreBarrierRows g w rows × ¬ (row_value rows s 0 ≡ Some (length w))
JudgesRows g s w rows (judged.Rejected flaw.List) = ⊥
JudgesRows g s w rows (judged.Rejected flaw.Cause) = ⊥
JudgesRows g s w rows (judged.Rejected flaw.Table) = ¬ AreBarrierRows g w rows
JudgesRows g s w rows (judged.Rejected flaw.Reached) =
    AreBarrierRows g w rows × (row_value rows s 0 ≡ Some (length w))
