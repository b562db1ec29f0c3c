use Rattle.std.proofs.Common.{ap, arith, sym, ◌∙◌}
use Rattle.pv_productive.specs.Tables.{size_at}
use Rattle.pv_span.specs.Charts.{span_number}
use Rattle.pv_span.proofs.RowsAcrossColumns.{row_past_done}
use Rattle.pv_span.proofs.charts.Chart.here.Goals as goal

pub returns-then-self : goal.returns-then-self
returns-then-self c =
    let t = c.args.self.now in
    c.value_at.ensures ∙ ap (λ xs. size_at xs c.args.column) c.deref.ensures.value ∙
    sym (ap (λ r. size_at r c.args.column) (row_past_done t.done (span_number t.tokens t.from t.to) t.row.items
    (let e = t.next c.if-self.true in omega arith)))
