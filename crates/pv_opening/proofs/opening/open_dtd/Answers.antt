use Rattle.std.proofs.Common.{ℕ, List, Option, Vec, Global, inl, inr, codes}
use Rattle.std.proofs.lemmas.Result.{err_from_is_err_and}
use Rattle.pv_dtd.specs.Facts.{MAX_DTD_BYTES}
use Rattle.pv_dtd.specs.PlainForms.{plain_dtd}
use Rattle.pv_opening.specs.Opening.{expanded_dtd_stage, fetch_stage}
use Rattle.pv_opening.specs.Stage.{Stage}
use Rattle.pv_opening.proofs.FetchedFiles.{behind_over, reading_counts, stopped_over}
use Rattle.pv_opening.proofs.opening.open_dtd.Goals as goal

abbrev fetches : Option (List ℕ) → Stage (List ℕ)
fetches file = fetch_stage file MAX_DTD_BYTES (codes "limit dtd-file")

-- neither stage asks the shelf
no_fault : (bytes : List ℕ) → (expanded_dtd_stage bytes).Faults 0 → ⊥
no_fault bytes (inl never) = never
no_fault bytes (inr (text, k, m, opens, never, e)) = never

pub returns-in_err-bytes-clause-over : goal.returns-in_err-bytes-clause-over
returns-in_err-bytes-clause-over g c =
    let p = err_from_is_err_and c.from_residual.result c.from_residual.ensures.1 in
    rw (p.1, p.2) (stopped_over _ (λ (v : Vec ℕ Global). v.items) fetches plain_dtd expanded_dtd_stage _ _ c.in_err-bytes.field-0.0 c.in_err-bytes.ensures.over)

pub returns-clause-over : goal.returns-clause-over
returns-clause-over g c =
    let bytes = c.in_ok-bytes.bytes in
    let read = rw c.deref.ensures.value at c.expanded_dtd.ensures in
    behind_over _ (λ (v : Vec ℕ Global). v.items) fetches plain_dtd expanded_dtd_stage _ _ bytes c.expanded_dtd.result c.in_ok-bytes.ensures.over read
    (reading_counts plain_dtd (expanded_dtd_stage bytes.items) 0 _ c.expanded_dtd.result (no_fault bytes.items) read)
