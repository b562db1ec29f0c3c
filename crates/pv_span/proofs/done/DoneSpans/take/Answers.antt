use Rattle.std.proofs.Common.{ap, arith, inl, inr, sym, ◌*◌, ◌+◌, ◌∙◌}
use Rattle.std.proofs.Math.ListN.{get_or-eq_default}
use Rattle.std.proofs.lemmas.Bool.{cases_lt}
use Rattle.pv_productive.specs.Tables.{no_size, size_at}
use Rattle.pv_span.proofs.RowsAcrossColumns.{across_at, across_past}
use Rattle.pv_span.proofs.done.DoneSpans.take.Goals as goal

pub returns : goal.returns
returns c = λ x.
    let s = c.args.self.now in
    let long = c.take_values.auto.values in
    let sized = c.requires.sized in
    elim (cases_lt x s.columns) [
      | inl lt ↦ c.take_values.ensures x (omega arith) ∙
          ap (λ xs. size_at xs (x * s.spans + c.args.number)) c.deref.ensures.value ∙
          sym (across_at s.cells.items s.columns s.spans c.args.number x s.long
          (let r = s.room in let q = c.requires.number in omega arith))
      | inr ge ↦ get_or-eq_default c.take_values.new.values no_size (omega arith) ∙
          sym (across_past s.cells.items s.columns s.spans c.args.number x ge)
    ]
