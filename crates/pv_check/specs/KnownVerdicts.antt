-- Verdicts that are remembered, by owner and word, and what is kept beside them.
use Rattle.std.specs.Prelude.{IfSome, Some, map, slice_get, ℕ, ◌≡◌}
use Rattle.pv_dtd.specs.Plain.{PlainDtd}
use Rattle.pv_model.specs.PlainForms.{plain_token}
use Rattle.pv_missing.specs.PlainForms.{plain_of}
use Rattle.pv_reach.specs.Plans.{IsPlan}
use Rattle.pv_check.specs.ListJudgements.{JudgesWord}
use Rattle.pv_check.specs.declared.kept.Kept.{Kept}
use Rattle.pv_check.specs.declared.known.KnownVerdict.{KnownVerdict}
use Rattle.pv_check.specs.declared.known.KnownVerdicts.{KnownVerdicts}
use Rattle.pv_check.specs.declared.widths.Widths.{Widths}

-- the entry tells how its word is judged by its owner
abbrev pub IsKnownVerdict : Widths → PlainDtd → KnownVerdict → Type 0
IsKnownVerdict s g e = JudgesWord s g (Some (plain_of e.of)) (map plain_token e.word.items)
    e.is_bare (Some e.verdict)

-- each entry does
abbrev pub AreKnownVerdicts : Widths → PlainDtd → KnownVerdicts → Type 0
AreKnownVerdicts s g known = (k : ℕ) (e : KnownVerdict) →
    slice_get known.entries.items k ≡ Some e → IsKnownVerdict s g e

-- A plan is one of this grammar, and each verdict is right by it.
pub record IsRightlyKept (s : Widths) (g : PlainDtd) (kept : Kept) : Type 0 where
  pub plan : IfSome kept.plan (IsPlan g)
  pub known : AreKnownVerdicts s g kept.known
