use Rattle.std.proofs.Common.{get_or-set_other, slice_index_or, ◌*◌, ◌+◌, ◌∙◌, ◌≡◌}
use Rattle.std.proofs.lemmas.List.{get_or_default}
use Rattle.pv_productive.specs.Tables.{no_size, size_at}
use Rattle.pv_span.proofs.RowsAcrossColumns.{few_more, put_more}
use Rattle.pv_span.proofs.done.put_values.Goals as goal

pub loop-column-preserved : goal.loop-column-preserved
loop-column-preserved c =
    let values = c.args.values.now in
    let site = c.loop-column.column in
    let v = slice_index_or values site 0 in
    let e : v ≡ size_at values site = get_or_default values site 0 no_size c.loop-column-test.true in
    let long = c.loop-column.auto.cells ∙ c.requires.long in
    let span = c.requires.number in
    record {
      put = put_more c.loop-column.cells values c.args.spans c.args.number site v span long c.loop-column-test.true e c.loop-column.invariant.put;
      kept = λ k ne. get_or-set_other c.loop-column.cells (site * c.args.spans + c.args.number) k v no_size (ne site) ∙ c.loop-column.invariant.kept k ne;
      few = λ old few. few_more c.loop-column.cells values c.args.spans c.args.number site v span long c.loop-column-test.true e few (c.loop-column.invariant.few old few);
    }
