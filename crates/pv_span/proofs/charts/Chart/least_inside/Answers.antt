use Rattle.std.proofs.Common.{arith, inl, inr, length, refl, ◌<◌, ◌∙◌, ◌≡◌}
use Rattle.std.proofs.lemmas.Bool.{cases_lt}
use Rattle.std.proofs.lemmas.List.{get_or_default}
use Rattle.std.proofs.lemmas.Option.{slice_get_read}
use Rattle.pv_productive.specs.Tables.{no_size}
use Rattle.pv_span.specs.Charts.{span_number}
use Rattle.pv_span.specs.DoneSpans.{rows_done}
use Rattle.pv_span.specs.PlainForms.{plain_chart}
use Rattle.pv_span.proofs.RowsAcrossColumns.{rows_count}
use Rattle.pv_span.proofs.LineFacts.{told_of}
use Rattle.pv_span.proofs.charts.Chart.least_inside.Goals as goal

pub returns : goal.returns
returns c =
    let s = c.args.self.now in
    let room : s.done.count < s.done.spans = let k = rw c.if-is_full.false at c.is_full.ensures in let n = rows_count s.done in let e = s.spans in
    elim (cases_lt s.done.count s.done.spans) [ inl lt ↦ lt | inr ge ↦ absurd (let z = k.1 (omega arith) in cc) ] in
    let q : span_number s.tokens s.from s.to ≡ length (rows_done s.done) = let d = s.next room in let b = rows_count s.done in omega arith in
    let l = c.in_ok-line.ensures.lookup in
    let k = slice_get_read c.deref.result.now (length c.deref.result.now) c.args.number c.in_ok-line.line.now refl l.3.0 l.1 in
    let d : s.to < length c.in_ok-line.line.now.least.items = let u = c.len.ensures in let v = c.if-self-len.false in omega arith in
    told_of (plain_chart s) s.from s.to s.from s.to s.lines.items c.args.number c.in_ok-line.line.now c.args.one c.args.two
    c.index.result.now s.lined refl refl s.place.0 s.place.1 q (rw c.deref.ensures.value at k) c.if-line-one.false c.if-line-two.false d
    (c.index.ensures ∙ get_or_default c.in_ok-line.line.now.least.items s.to c.index.result.now no_size d)
