use Rattle.std.specs.Vec.{with_items}
use Rattle.std.proofs.Common.{ap, arith, ◌+◌, ◌∙◌, ◌≡◌}
use Rattle.std.proofs.lemmas.List.{with_items_is}
use Rattle.pv_productive.specs.Tables.{size_at}
use Rattle.pv_span.specs.DoneSpans.{row_of}
use Rattle.pv_span.proofs.RowsAcrossColumns.{each_lowered}
use Rattle.pv_span.proofs.SpanNumbers.{later_before}
use Rattle.pv_span.proofs.lines.add_cut.Goals as goal

pub column-behind-requires : goal.column-behind-requires
column-behind-requires c =
    let s = c.args.last.now in let l = later_before s.tokens s.from s.to s.done.now.count c.requires.inside s.within.1 s.finished in
    let e = c.span_number-span.ensures in let m = c.min-end.ensures in omega arith

pub returns-then-first-end-clause-each : goal.returns-then-first-end-clause-each
returns-then-first-end-clause-each c =
    let s = c.args.last.now in
    let d = s.done.now in
    let line = c.args.line.now in
    let e : (with_items line.least c.lower_sums.new.least).items ≡ c.lower_sums.new.least =
    with_items_is line.least _ (let l = c.lower_sums.auto.least in let m = c.deref_mut.ensures.len in omega arith) in
    let lowered = rw c.deref_mut.ensures.value at c.lower_sums.ensures.lowered in
    let kept = rw c.deref_mut.ensures.value at c.lower_sums.ensures.kept in
    rw e (each_lowered d s.tokens line.two line.least.items c.lower_sums.new.least c.column-behind.result.now s.to c.args.before s.within.1
    (later_before s.tokens s.from s.to d.count c.requires.inside s.within.1 s.finished)
    (λ k l. c.column-behind.ensures.each k (let m = c.min-end.ensures in let n = c.len.ensures in omega arith) ∙
    ap (λ q. size_at (row_of d (q + k)) line.two) c.span_number-span.ensures)
    lowered kept c.requires.few)
