use Rattle.pv_complete.proofs.missing.remembering.need_remembering.Goals as goal

pub need_under-told-requires : goal.need_under-told-requires
need_under-told-requires c = rw c.in_ok-layout.ensures.layout c.take_layout.ensures.remembers.weights

pub returns-clause-remembers : goal.returns-clause-remembers
returns-clause-remembers c = record {
  columns = rw c.in_ok-layout.ensures.layout at c.into_columns.ensures;
  weights = rw c.in_ok-layout.ensures.layout at c.need_under-told.ensures.known;
}
