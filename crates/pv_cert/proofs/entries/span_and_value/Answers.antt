use Rattle.std.proofs.Common.{List, ℕ}
use Rattle.pv_chars.proofs.Options.{match_none}
use Rattle.pv_cert.specs.Fronts.{IsSpanThen}
use Rattle.pv_cert.proofs.EntryFronts.{no-from, no-to, no-value, span-then}
use Rattle.pv_cert.proofs.entries.span_and_value.Goals as goal

pub returns-in_err-from : goal.returns-in_err-from
returns-in_err-from c =
    let bytes = c.args.bytes.now in
    match_none _ ((from to value : ℕ) (rest : List ℕ) → IsSpanThen bytes from to value rest →
    ⊥) (λ r. IsSpanThen bytes r.0 r.1 r.2 r.3.now) c.from_residual.ensures
    (no-from bytes c.in_err-from.ensures)

pub returns-in_err-to : goal.returns-in_err-to
returns-in_err-to c =
    let bytes = c.args.bytes.now in
    match_none _ ((from to value : ℕ) (rest : List ℕ) → IsSpanThen bytes from to value rest → ⊥) (λ r. IsSpanThen bytes r.0 r.1 r.2 r.3.now) c.from_residual-in_err-to.ensures
    (no-to bytes c.in_ok-from.from c.in_ok-from.behind_from.now c.in_ok-from.ensures c.in_err-to.ensures)

pub returns-in_err-value : goal.returns-in_err-value
returns-in_err-value c =
    let bytes = c.args.bytes.now in
    match_none _ ((from to value : ℕ) (rest : List ℕ) → IsSpanThen bytes from to value rest → ⊥) (λ r. IsSpanThen bytes r.0 r.1 r.2 r.3.now) c.from_residual-in_err-value.ensures
    (no-value bytes c.in_ok-from.from c.in_ok-from.behind_from.now c.in_ok-to.to c.in_ok-to.behind_to.now c.in_ok-from.ensures c.in_ok-to.ensures c.in_err-value.ensures)

pub returns : goal.returns
returns c = span-then c.args.bytes.now c.in_ok-from.from c.in_ok-from.behind_from.now c.in_ok-to.to
    c.in_ok-to.behind_to.now c.in_ok-value.value c.in_ok-value.rest.now c.in_ok-from.ensures
    c.in_ok-to.ensures c.in_ok-value.ensures
