use Rattle.std.proofs.Common.{arith, get_or-set_other, get_or-set_same, inl, inr, length}
use Rattle.std.proofs.Common.{slice_index_or, ◌*◌, ◌+◌, ◌<◌, ◌∙◌, ◌≡◌, ◌≢◌}
use Rattle.std.proofs.lemmas.Bool.{cases_lt}
use Rattle.std.proofs.lemmas.List.{get_or_default}
use Rattle.pv_productive.specs.Tables.{no_size}
use Rattle.pv_span.proofs.RowsAcrossColumns.{place_inside}
use Rattle.pv_span.proofs.done.take_values.Goals as goal

pub loop-column-preserved : goal.loop-column-preserved
loop-column-preserved c = λ x lt.
    let n = c.loop-column.column in
    let cells = c.args.cells.now in
    let values = c.loop-column.values in
    let end = c.loop-column-test.true in
    let long = c.loop-column.auto.values in
    let all = c.requires.long in
    let place = n * c.args.spans + c.args.number in
    let v = slice_index_or cells place 0 in
    elim (cases_lt x n) [
      | inl less ↦ (
          let ne : x ≢ n = omega arith in
          get_or-set_other values n x v no_size ne ∙ c.loop-column.invariant x less
          )
      | inr more ↦ (
          let e : x ≡ n = omega arith in
          let l : n < length values = omega arith in
          let h = place_inside (length c.args.values.now) c.args.spans n c.args.number
          (omega arith) c.requires.number in
          rw e (get_or-set_same values n v no_size l ∙
          get_or_default cells place 0 no_size (omega arith))
          )
    ]
