use Rattle.std.specs.Vec.{with_items}
use Rattle.std.proofs.Common.{ap, arith, sym, ◌+◌, ◌-◌, ◌∙◌, ◌≡◌}
use Rattle.std.proofs.lemmas.List.{with_items_is}
use Rattle.pv_productive.specs.Tables.{size_at}
use Rattle.pv_span.specs.Charts.{span_number}
use Rattle.pv_span.specs.DoneSpans.{row_of}
use Rattle.pv_span.proofs.RowsAcrossColumns.{row_at_done}
use Rattle.pv_span.proofs.charts.Chart.copy_from.Goals as goal

pub returns-clause-copied : goal.returns-clause-copied
returns-clause-copied c = λ s.
    let t = c.args.self.now in
    let e : (with_items t.row c.take.new.values).items ≡ c.take.new.values =
    with_items_is t.row _ (let l = c.take.auto.values in let m = c.deref_mut.ensures.len in
    omega arith) in
    rw e (c.take.ensures s ∙ ap (λ k. size_at (row_of t.done k) s) c.span_number-number.ensures ∙
    sym (ap (λ r. size_at r s) (row_at_done t.done
    (span_number t.tokens c.args.place (c.args.place + (t.to - t.from))) t.row.items
    c.requires.1)))
