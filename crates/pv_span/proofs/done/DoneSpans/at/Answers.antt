use Rattle.std.proofs.Common.{arith, ap, sym, ◌*◌, ◌+◌, ◌∙◌}
use Rattle.pv_productive.specs.Tables.{size_at}
use Rattle.pv_span.proofs.RowsAcrossColumns.{across_at}
use Rattle.pv_span.proofs.done.DoneSpans.at.Goals as goal

pub returns : goal.returns
returns c =
    let s = c.args.self.now in
    c.value_at.ensures ∙ ap (λ xs. size_at xs (c.args.column * s.spans + c.args.number)) c.deref.ensures.value ∙
    sym (across_at s.cells.items s.columns s.spans c.args.number c.args.column s.long (let r = s.room in let q = c.requires in omega arith))
