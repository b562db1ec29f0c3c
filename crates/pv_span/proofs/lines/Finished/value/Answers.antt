use Rattle.std.proofs.Common.{ap, sym, ◌∙◌}
use Rattle.pv_productive.specs.Tables.{size_at}
use Rattle.pv_span.specs.DoneSpans.{row_of}
use Rattle.pv_span.proofs.RowsAcrossColumns.{done_at}
use Rattle.pv_span.proofs.lines.Finished.value.Goals as goal

pub returns : goal.returns
returns c =
    let s = c.args.self.now in let d = s.done.now in
    c.at.ensures ∙ ap (λ k. size_at (row_of d k) c.args.column) c.span_number.ensures ∙ sym (done_at d s.tokens c.args.column s.from s.to s.finished)
