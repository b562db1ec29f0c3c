use Rattle.std.proofs.Common.{arith}
use Rattle.pv_chars.proofs.Options.{match_none}
use Rattle.pv_tables.specs.declared.tables.Entry.{Entry}
use Rattle.pv_cert.specs.Fronts.{Begins, BeginsNone}
use Rattle.pv_cert.specs.Lines.{entry_line}
use Rattle.pv_cert.proofs.EntryFronts.{behind-shorter, entry-stands, no-letter, no-number, no-site}
use Rattle.pv_cert.proofs.EntryFronts.{no-span, value-past}
use Rattle.pv_cert.proofs.entries.entry_at.Goals as goal

pub returns-in_err-letter-clause-entry : goal.returns-in_err-letter-clause-entry
returns-in_err-letter-clause-entry c =
    let bytes = c.args.bytes.now in
    match_none _ (BeginsNone entry_line bytes) (λ r. Begins bytes (entry_line r.0) r.1.now) c.from_residual.ensures (no-letter bytes c.in_err-letter.ensures)

pub returns-in_err-number-clause-entry : goal.returns-in_err-number-clause-entry
returns-in_err-number-clause-entry c =
    let bytes = c.args.bytes.now in
    match_none _ (BeginsNone entry_line bytes) (λ r. Begins bytes (entry_line r.0) r.1.now) c.from_residual-in_err-number.ensures
    (rw c.in_ok-letter.ensures (no-number c.in_ok-letter.letter c.in_ok-letter.behind_kind.now c.in_err-number.ensures))

pub returns-in_err-site-clause-entry : goal.returns-in_err-site-clause-entry
returns-in_err-site-clause-entry c =
    let bytes = c.args.bytes.now in
    match_none _ (BeginsNone entry_line bytes) (λ r. Begins bytes (entry_line r.0) r.1.now) c.from_residual-in_err-site.ensures
    (rw c.in_ok-letter.ensures (no-site c.in_ok-letter.letter c.in_ok-letter.behind_kind.now c.in_err-site.ensures))

pub returns-in_err-from-clause-entry : goal.returns-in_err-from-clause-entry
returns-in_err-from-clause-entry c =
    let bytes = c.args.bytes.now in
    match_none _ (BeginsNone entry_line bytes) (λ r. Begins bytes (entry_line r.0) r.1.now) c.from_residual-in_err-from.ensures
    (rw c.in_ok-letter.ensures (no-span c.in_ok-letter.letter c.in_ok-number.number c.in_ok-letter.behind_kind.now c.in_ok-number.behind_number.now c.in_ok-number.ensures c.in_err-from.ensures))

pub returns-then-value-gt-MAX_MISSING-clause-entry : goal.returns-then-value-gt-MAX_MISSING-clause-entry
returns-then-value-gt-MAX_MISSING-clause-entry c =
    rw c.in_ok-letter.ensures (value-past c.in_ok-letter.letter c.in_ok-number.number
    c.in_ok-letter.behind_kind.now c.in_ok-number.behind_number.now c.in_ok-from.from
    c.in_ok-from.to c.in_ok-from.value c.in_ok-from.rest.now
    c.in_ok-number.ensures c.in_ok-from.ensures c.if-value-gt-MAX_MISSING.true)

pub returns-clause-entry : goal.returns-clause-entry
returns-clause-entry c =
    let e : Entry = record { site = c.in_ok-site.site; from = c.in_ok-from.from; to = c.in_ok-from.to; value = c.in_ok-from.value } in
    rw c.in_ok-letter.ensures (entry-stands c.in_ok-letter.letter c.in_ok-letter.behind_kind.now e
    c.in_ok-number.behind_number.now c.in_ok-from.rest.now c.in_ok-site.ensures.0
    (rw c.in_ok-site.ensures.1 c.in_ok-number.ensures)
    c.in_ok-from.ensures (omega (arith, c.if-value-gt-MAX_MISSING.false)))

pub returns-clause-within : goal.returns-clause-within
returns-clause-within c =
    let e : Entry = record { site = c.in_ok-site.site; from = c.in_ok-from.from; to = c.in_ok-from.to; value = c.in_ok-from.value } in
    behind-shorter c.args.bytes.now e c.in_ok-from.rest.now (rw c.in_ok-letter.ensures
    (entry-stands c.in_ok-letter.letter c.in_ok-letter.behind_kind.now e
    c.in_ok-number.behind_number.now c.in_ok-from.rest.now c.in_ok-site.ensures.0
    (rw c.in_ok-site.ensures.1 c.in_ok-number.ensures) c.in_ok-from.ensures (omega (arith, c.if-value-gt-MAX_MISSING.false))))
