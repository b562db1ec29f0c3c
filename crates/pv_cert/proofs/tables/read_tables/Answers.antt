use Rattle.std.proofs.Common.{◌≡◌, ◌≤◌, ◌+◌, ap, length, arith, ℕ}
use Rattle.std.proofs.lemmas.Result.{err_from_is_err_and}
use Rattle.pv_tables.specs.Tables.{entries_in}
use Rattle.pv_cert.proofs.TableLines.{entries-in-more, entries-refused, more-behind-end, no-end, none-found, pack-ends, table-number, table-read}
use Rattle.pv_cert.proofs.tables.read_tables.Goals as goal

pub returns-in_err-entries-clause-refused : goal.returns-in_err-entries-clause-refused
returns-in_err-entries-clause-refused c =
    let from = err_from_is_err_and c.from_residual-in_err-entries.result c.from_residual-in_err-entries.ensures.1 in
    rw (from.1, from.2)
    (entries-refused c.args.first c.args.bytes.now c.tables.tables.items c.tables.rest.now _ c.in-Some.after.now c.tables.room _ c.tables.invariant.read (rw c.in-Some.is at c.in_ok-path.ensures.list)
    c.tables.invariant.room c.in_err-entries.ensures.refused)

pub tables-preserved : goal.tables-preserved
tables-preserved c = record {
  read = rw c.in_ok-push.ensures.items
      (table-read c.args.bytes.now c.tables.tables.items c.tables.rest.now c.in-Some.after.now _ c.in_ok-entries.behind.now c.tables.invariant.read (rw c.in-Some.is at c.in_ok-path.ensures.list)
      (rw c.of.ensures c.in_ok-entries.ensures.read));
  room = omega (arith, c.tables.invariant.room, c.in_ok-entries.ensures.few, ap entries_in c.in_ok-push.ensures.items, entries-in-more, ap length c.of.ensures, c.len-room.ensures);
  number = omega (arith, c.tables.invariant.number, ap (λ ts. length (Rattle.pv_cert.specs.Packs.table_lines ts)) c.in_ok-push.ensures.items, table-number, ap length c.of.ensures, c.len.ensures);
  within = omega (arith, rw c.in-Some.is at c.in_ok-path.ensures.within, c.in_ok-entries.ensures.within, c.tables.invariant.within, c.len.ensures);
}

few-by : (n room most : ℕ) → room + n ≡ most → n ≤ most
few-by n room most e = omega arith

pub returns-in-Some-empty-clause-read : goal.returns-in-Some-empty-clause-read
returns-in-Some-empty-clause-read c =
    pack-ends c.args.bytes.now c.tables.tables.items c.tables.rest.now c.in-Some-empty.field-0.now c.tables.invariant.read c.in-Some-empty.ensures c.in-Some-empty.len_below
    (few-by (entries_in c.tables.tables.items) c.tables.room _ c.tables.invariant.room)

pub returns-in-Some-end_at-clause-refused : goal.returns-in-Some-end_at-clause-refused
returns-in-Some-end_at-clause-refused c =
    more-behind-end c.args.first c.args.bytes.now c.tables.tables.items c.tables.rest.now c.in-Some-end_at.field-0.now c.tables.lines c.tables.invariant.read c.in-Some-end_at.ensures
    (λ none. let e = ap length none in absurd (omega (arith, e, c.in-Some-end_at.len_at_least)))
    (few-by (entries_in c.tables.tables.items) c.tables.room _ c.tables.invariant.room) c.tables.invariant.number

pub returns-in-None-clause-refused : goal.returns-in-None-clause-refused
returns-in-None-clause-refused c =
    no-end c.args.first c.args.bytes.now c.tables.tables.items c.tables.rest.now c.tables.lines c.tables.invariant.read
    (none-found c.in_ok-path.field-0 _ _ c.in_default.not-Some c.in_ok-path.ensures.list)
    c.in-None.ensures (few-by (entries_in c.tables.tables.items) c.tables.room _ c.tables.invariant.room) c.tables.invariant.number
