-- What holds of denials, each a statement. M is the type of marks.
use Rattle.std.specs.Prelude.{List, ℕ, ◌≡◌}
use Rattle.pv_dtd.specs.Plain.{PlainDtd}
use Rattle.pv_dtd.specs.Proper.{IsProperDtd}
use Rattle.pv_tree.specs.Lists.{Listed}
use Rattle.pv_tree.specs.Plain.{PlainDoc}
use Rattle.pv_tree.specs.View.{view}
use Rattle.pv_missing.specs.Completions.{IsPotentiallyValid}
use Rattle.pv_missing.specs.Proper.{IsProperDoc}
use Rattle.pv_missing.specs.Verdicts.{IsLive}
use Rattle.pv_denial.specs.Judgements.{IsDenialJudged, IsTooWideFor, JudgesAt}
use Rattle.pv_denial.specs.declared.denials.Denial.{Denial}
use Rattle.pv_denial.specs.declared.denials.Judged.{Judged}
use Rattle.pv_denial.specs.declared.denials.Judged.TheVariants as judged

-- a list that passes all tests of a denial isn't live
abbrev pub DeniedListIsImpossible : (M : Type 0) → Type 0
DeniedListIsImpossible M = (g : PlainDtd) (root : List ℕ) (list : Listed M) (d : Denial) →
    IsProperDtd g → JudgesAt g root d list judged.Denied → ¬ IsLive g root list

-- where a denial passes all tests, no insertions make the document valid
abbrev pub DeniedIsImpossible : (M : Type 0) → Type 0
DeniedIsImpossible M = (g : PlainDtd) (root : List ℕ) (doc : PlainDoc M) (d : Denial) →
    IsProperDtd g → IsProperDoc doc → IsDenialJudged g root doc d judged.Denied →
    ¬ IsPotentiallyValid g root (view doc.root)

-- a denial is judged to be at most one thing, and isn't judged where its list is too wide
abbrev pub OneJudged : (M : Type 0) → Type 0
OneJudged M = (g : PlainDtd) (root : List ℕ) (doc : PlainDoc M) (d : Denial) →
    ((j k : Judged) → IsDenialJudged g root doc d j → IsDenialJudged g root doc d k → j ≡ k) ×
    ((j : Judged) → IsDenialJudged g root doc d j → ¬ IsTooWideFor g doc d)
