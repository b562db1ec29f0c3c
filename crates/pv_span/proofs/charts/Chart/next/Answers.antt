use Rattle.std.specs.Vec.{with_items}
use Rattle.std.proofs.Common.{arith, length, suc, ◌+◌, ◌≡◌}
use Rattle.std.proofs.lemmas.List.{with_items_is}
use Rattle.pv_span.specs.Charts.{span_number}
use Rattle.pv_span.specs.DoneSpans.{rows_done}
use Rattle.pv_span.proofs.RowsAcrossColumns.{rows_count}
use Rattle.pv_span.proofs.LineFacts.{moved, pushed}
use Rattle.pv_span.proofs.SpanNumbers.{next_number}
use Rattle.pv_span.proofs.charts.Chart.next.Goals as goal

pub put-requires-clause-room : goal.put-requires-clause-room
put-requires-clause-room c = let s = c.args.self.now in let r = c.requires.room in let n = rows_count s.done in let e = s.spans in omega arith

pub extend_lines-requires : goal.extend_lines-requires
extend_lines-requires c =
    let s = c.args.self.now in
    let r = c.requires.room in let n = rows_count s.done in let e = s.spans in
    let q : span_number s.tokens s.from s.to ≡ length (rows_done s.done) = let d = s.next (omega arith) in omega arith in
    pushed s.tokens s.from s.to (rows_done s.done) (rows_done c.put.new.self) s.lines.items c.deref_mut-then-self.result.now s.row.items s.lined
    (rw c.deref.ensures.value at c.put.ensures.rows) c.deref_mut-then-self.ensures.value s.place.0 s.place.1 q

pub invariant_of-self-clause-next : goal.invariant_of-self-clause-next
invariant_of-self-clause-next c = λ l.
    let s = c.args.self.now in
    let r = c.requires.room in let n = rows_count s.done in let e = s.spans in
    let q = s.next (omega arith) in let k = c.put.ensures.count in
    let f = next_number s.tokens s.from s.to s.place.0 in let z : s.to + 1 ≡ suc s.to = omega arith in rw z (omega arith)

pub invariant_of-self-clause-lined : goal.invariant_of-self-clause-lined
invariant_of-self-clause-lined c =
    let s = c.args.self.now in
    let e : (with_items s.lines c.extend_lines.new.lines).items ≡ c.extend_lines.new.lines =
    with_items_is s.lines _
    (let l = c.extend_lines.auto.lines in let m = c.deref_mut-then-self.ensures.len in omega arith) in
    ∣ rw e (moved s.tokens s.from s.to (rows_done c.put.new.self) c.extend_lines.new.lines c.extend_lines.ensures) ∣₁

pub invariant_of-self-clause-sized : goal.invariant_of-self-clause-sized
invariant_of-self-clause-sized c =
    let s = c.args.self.now in
    let l = c.forget.auto.values in let m = c.deref_mut.ensures.len in
    let e : (with_items s.row c.forget.new.values).items ≡ c.forget.new.values = with_items_is s.row _ (omega arith) in
    let a = s.sized in let k = c.put.ensures.columns in rw e (omega arith)
