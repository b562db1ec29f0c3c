-- What holds of denials, each a statement. M is the type of marks.
use Rattle.std.specs.Prelude.{List, ℕ, ◌≡◌}
use Rattle.pv_model.specs.Plain.{PlainToken}
use Rattle.pv_dtd.specs.Plain.{PlainDtd}
use Rattle.pv_dtd.specs.Proper.{IsProperDtd}
use Rattle.pv_rules.specs.Rules.{IsKnownWord}
use Rattle.pv_tree.specs.Plain.{PlainDoc}
use Rattle.pv_missing.specs.LiveWords.{AreProductiveTokens}
use Rattle.pv_missing.specs.Proper.{IsProperDoc}
use Rattle.pv_denial.specs.Judgements.{IsDenialJudged}
use Rattle.pv_denial.specs.Rows.{AreBarrierRows, AreInOrder}
use Rattle.pv_denial.specs.declared.denials.Denial.{Denial}
use Rattle.pv_denial.specs.declared.denials.Judged.TheVariants as judged
use Rattle.pv_denial.specs.declared.denials.Row.{Row}
use Rattle.pv_deny.specs.DocumentDenials.{AreFurthestRows, HasOutcome, HasTooMany, IsDenialOf}
use Rattle.pv_deny.specs.DocumentDenials.{Outcome}

-- rows of furthest places over a word of productive names are a barrier for it
abbrev pub FurthestIsBarrier : Type 0
FurthestIsBarrier = (g : PlainDtd) (w : List PlainToken) (rows : List Row) → IsProperDtd g →
    IsKnownWord g w → AreProductiveTokens g w → AreFurthestRows g w rows → AreBarrierRows g w rows

-- what denies a document passes all tests of the judge
abbrev pub DenialIsJudged : (M : Type 0) → Type 0
DenialIsJudged M = (g : PlainDtd) (root : List ℕ) (doc : PlainDoc M) (d : Denial) →
    IsProperDtd g → IsDenialOf g root doc d → IsDenialJudged g root doc d judged.Denied

-- a document has one denial at most, and none where its rows would have too many values
abbrev pub OneDenial : (M : Type 0) → Type 0
OneDenial M = (g : PlainDtd) (root : List ℕ) (doc : PlainDoc M) →
    ((d e : Denial) → IsDenialOf g root doc d → IsDenialOf g root doc e → d ≡ e) ×
    ((d : Denial) → IsDenialOf g root doc d → ¬ HasTooMany g root doc)

-- a document has one outcome at most: no two denials, and none beside a refusal
abbrev pub OneOutcome : (M : Type 0) → Type 0
OneOutcome M = (g : PlainDtd) (root : List ℕ) (doc : PlainDoc M) (o p : Outcome) →
    IsProperDtd g → IsProperDoc doc → HasOutcome g root doc o → HasOutcome g root doc p → o ≡ p

-- the rows of what denies a document stand in order, so that its text is read again
abbrev pub DenialIsInOrder : (M : Type 0) → Type 0
DenialIsInOrder M = (g : PlainDtd) (root : List ℕ) (doc : PlainDoc M) (d : Denial) →
    IsDenialOf g root doc d → AreInOrder d.rows
