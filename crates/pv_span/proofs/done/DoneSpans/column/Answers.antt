use Rattle.std.proofs.Common.{ap, arith, sym, ◌*◌, ◌+◌, ◌∙◌, ◌≡◌}
use Rattle.std.proofs.lemmas.List.Edits.{get_or-between}
use Rattle.pv_productive.specs.Tables.{no_size, size_at}
use Rattle.pv_span.proofs.RowsAcrossColumns.{across_at, across_past}
use Rattle.pv_span.proofs.done.DoneSpans.column.Goals as goal

pub returns-then-column-self-clause-each : goal.returns-then-column-self-clause-each
returns-then-column-self-clause-each c = λ k l.
    let s = c.args.self.now in sym (across_past s.cells.items s.columns s.spans (c.args.first + k) c.args.column c.if-column-self.true)

pub returns-clause-each : goal.returns-clause-each
returns-clause-each c = λ k l.
    let s = c.args.self.now in
    let start = c.args.column * s.spans + c.args.first in
    let z : start + k ≡ c.args.column * s.spans + (c.args.first + k) = omega arith in
    let r = c.requires in let room = s.room in
    get_or-between c.deref.result.now start (start + c.args.count) k no_size (omega arith) ∙
    ap (λ xs. size_at xs (start + k)) c.deref.ensures.value ∙ ap (size_at s.cells.items) z ∙
    sym (across_at s.cells.items s.columns s.spans (c.args.first + k) c.args.column s.long (omega arith))
