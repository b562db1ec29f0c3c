use Rattle.std.proofs.Common.{ap, arith, sym, ◌∙◌}
use Rattle.pv_productive.specs.Tables.{size_at}
use Rattle.pv_span.specs.Charts.{span_number}
use Rattle.pv_span.specs.DoneSpans.{row_of}
use Rattle.pv_span.proofs.RowsAcrossColumns.{row_at_done, row_past_done}
use Rattle.pv_span.proofs.charts.Chart.at.Goals as goal

pub returns-then-number-self : goal.returns-then-number-self
returns-then-number-self c =
    let t = c.args.self.now in
    c.at.ensures ∙ ap (λ k. size_at (row_of t.done k) c.args.column) c.span_number-number.ensures ∙
    sym (ap (λ r. size_at r c.args.column) (row_at_done t.done (span_number t.tokens c.args.from c.args.to) t.row.items
    (let f = c.if-number-self.true in let e = c.span_number-number.ensures in omega arith)))

pub returns-else-number-self : goal.returns-else-number-self
returns-else-number-self c =
    let t = c.args.self.now in
    c.value_at.ensures ∙ ap (λ xs. size_at xs c.args.column) c.deref.ensures.value ∙
    sym (ap (λ r. size_at r c.args.column) (row_past_done t.done (span_number t.tokens c.args.from c.args.to) t.row.items
    (let f = c.if-number-self.false in let e = c.span_number-number.ensures in omega arith)))
