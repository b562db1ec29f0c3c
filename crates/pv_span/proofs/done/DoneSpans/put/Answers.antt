use Rattle.std.specs.Vec.{with_items}
use Rattle.std.proofs.Common.{ap, arith, subst, sym, ◌∙◌, ◌≡◌}
use Rattle.pv_span.specs.DoneSpans.{cells_across, row_of}
use Rattle.std.proofs.lemmas.List.{with_items_is}
use Rattle.pv_productive.specs.Tables.{size_at}
use Rattle.pv_span.proofs.RowsAcrossColumns.{across_kept, across_put}
use Rattle.pv_span.proofs.RowsAcrossColumns.{rows_put}
use Rattle.pv_span.proofs.done.DoneSpans.put.Goals as goal

pub returns-clause-rows : goal.returns-clause-rows
returns-clause-rows c =
    let s = c.args.self.now in
    let e : (with_items s.cells c.put_values.new.cells).items ≡ c.put_values.new.cells = with_items_is s.cells _ (let l = c.put_values.auto.cells in let m = c.deref_mut.ensures.len in omega arith) in
    let room = c.requires.room in
    rows_put s (with_items s.cells c.put_values.new.cells).items c.args.values.now
    (λ k l. subst (λ z. cells_across z s.columns s.spans k ≡ row_of s k) (sym e)
    (across_kept c.put_values.new.cells s.columns s.spans k s.cells.items s.count room (omega arith) (omega arith)
    (λ q h. c.put_values.ensures.kept q h ∙ ap (λ xs. size_at xs q) c.deref_mut.ensures.value)))
    (subst (λ z. cells_across z s.columns s.spans s.count ≡ c.args.values.now) (sym e)
    (across_put c.put_values.new.cells s.columns s.spans s.count c.args.values.now c.requires.sized c.put_values.ensures.put))
