use Rattle.std.proofs.Common.{ℕ, List, Option, Vec, Global, codes}
use Rattle.std.proofs.lemmas.Result.{err_from_is_err_and}
use Rattle.pv_opening.specs.Opening.{fetch_stage}
use Rattle.pv_opening.specs.Stage.{Stage}
use Rattle.pv_commands.specs.Standoff.{MAX_TEXT_BYTES, text_stage}
use Rattle.pv_opening.proofs.FetchedFiles.{behind_over, reading_counts, stopped_over}
use Rattle.pv_commands.proofs.standoff.open_text.Goals as goal

abbrev fetches : Option (List ℕ) → Stage (List ℕ)
fetches file = fetch_stage file MAX_TEXT_BYTES (codes "limit text-file")

pub returns-in_err-bytes-clause-over : goal.returns-in_err-bytes-clause-over
returns-in_err-bytes-clause-over g c =
    let p = err_from_is_err_and c.from_residual.result c.from_residual.ensures.1 in
    rw (p.1, p.2)
    (stopped_over _ (λ (v : Vec ℕ Global). v.items) fetches (λ (x : List (List ℕ)). x) text_stage _
    _ c.in_err-bytes.field-0.0 c.in_err-bytes.ensures.over)

pub returns-clause-over : goal.returns-clause-over
returns-clause-over g c =
    let bytes = c.in_ok-bytes.bytes in
    let read = rw c.deref.ensures.value at c.text_of.ensures in
    behind_over _ (λ (v : Vec ℕ Global). v.items) fetches (λ (x : List (List ℕ)). x) text_stage _ _
    bytes c.text_of.result c.in_ok-bytes.ensures.over read
    (reading_counts (λ (x : List (List ℕ)). x) (text_stage bytes.items) 0 _ c.text_of.result
    (λ never. never) read)
