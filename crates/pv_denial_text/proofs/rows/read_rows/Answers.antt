use Rattle.std.proofs.Common.{[], ap, arith, length, ◌∷◌, ◌≤◌, ℕ, ◌+◌, ◌≡◌}
use Rattle.std.proofs.lemmas.List.{length-append}
use Rattle.pv_denial.specs.Rows.{values_in}
use Rattle.pv_denial.proofs.ListJudgements.{matched_none}
use Rattle.pv_denial_text.proofs.RowLines.{more-behind-end, no-end, row-read, short-end, too-many}
use Rattle.pv_denial_text.proofs.LineSequences.{values-more}
use Rattle.pv_denial_text.proofs.rows.read_rows.Goals as goal

few-by : (n room most : ℕ) → room + n ≡ most → n ≤ most
few-by n room most e = omega arith

pub returns-then-room-count-clause-refused : goal.returns-then-room-count-clause-refused
returns-then-room-count-clause-refused c =
    too-many c.args.bytes.now c.rows.rows.items c.rows.last c.rows.rest.now c.in-Some.row
    c.in-Some.after.now c.rows.room c.rows.invariant.read
    (rw c.in-Some.is at c.in_ok-row.ensures.row) c.rows.invariant.room
    (omega (arith, c.if-room-count.true, ap length c.as_slice-count.ensures))

pub rows-preserved : goal.rows-preserved
rows-preserved c = record {
  read = rw c.in_ok-push.ensures.items
      (row-read c.args.bytes.now c.rows.rows.items c.rows.last c.rows.rest.now c.in-Some.row c.in-Some.after.now c.rows.invariant.read (rw c.in-Some.is at c.in_ok-row.ensures.row));
  room = omega (arith, c.rows.invariant.room, c.if-room-count.false, ap length c.as_slice-count.ensures, ap values_in c.in_ok-push.ensures.items, values-more c.rows.rows.items c.in-Some.row);
  within = omega (arith, rw c.in-Some.is at c.in_ok-row.ensures.within, c.rows.invariant.within, ap length c.in_ok-push.ensures.items, length-append c.rows.rows.items (c.in-Some.row ∷ []));
}

pub returns-in-Some-empty-clause-read : goal.returns-in-Some-empty-clause-read
returns-in-Some-empty-clause-read c =
    short-end c.args.bytes.now c.rows.rows.items c.rows.last c.rows.rest.now c.in-Some-empty.field-0.now c.rows.invariant.read c.in-Some-empty.ensures c.in-Some-empty.len_below
    (few-by (values_in c.rows.rows.items) c.rows.room _ c.rows.invariant.room)

pub returns-in-Some-end_at-clause-refused : goal.returns-in-Some-end_at-clause-refused
returns-in-Some-end_at-clause-refused c =
    more-behind-end c.args.bytes.now c.rows.rows.items c.rows.last c.rows.rest.now c.in-Some-end_at.field-0.now _ c.rows.invariant.read c.in-Some-end_at.ensures
    (λ none. let e = ap length none in absurd (omega (arith, e, c.in-Some-end_at.len_at_least)))
    (few-by (values_in c.rows.rows.items) c.rows.room _ c.rows.invariant.room) (omega arith)

pub returns-in-None-clause-refused : goal.returns-in-None-clause-refused
returns-in-None-clause-refused c =
    no-end c.args.bytes.now c.rows.rows.items c.rows.last c.rows.rest.now _ c.rows.invariant.read (matched_none c.in_ok-row.field-0 _ _ c.in_ok-row.ensures.row c.in_default.is)
    c.in-None.ensures (few-by (values_in c.rows.rows.items) c.rows.room _ c.rows.invariant.room) (omega arith)
