use Rattle.pv_productive.specs.PlainForms.{dtd_of}
use Rattle.pv_complete.proofs.missing.remembering.complete_remembering.Goals as goal

pub complete_under-told-requires-clause-known : goal.complete_under-told-requires-clause-known
complete_under-told-requires-clause-known c =
    rw c.in_ok-layout.ensures.layout (c.keep_pieces.ensures (dtd_of c.args.grammar.now)
    c.take_layout.ensures.remembers.weights)

pub complete_under-told-requires-clause-verdicts : goal.complete_under-told-requires-clause-verdicts
complete_under-told-requires-clause-verdicts c =
    rw c.in_ok-layout.ensures.layout c.requires.verdicts

pub returns-clause-completed : goal.returns-clause-completed
returns-clause-completed c = rw c.in_ok-layout.ensures.layout at
    c.complete_under-told.ensures.completed

pub returns-clause-written : goal.returns-clause-written
returns-clause-written c = rw c.in_ok-layout.ensures.layout at c.complete_under-told.ensures.written

pub returns-clause-bounded : goal.returns-clause-bounded
returns-clause-bounded c = rw c.in_ok-layout.ensures.layout at c.complete_under-told.ensures.bounded

pub returns-clause-refused : goal.returns-clause-refused
returns-clause-refused c = rw c.in_ok-layout.ensures.layout at c.complete_under-told.ensures.refused

pub returns-clause-remembers : goal.returns-clause-remembers
returns-clause-remembers c = record {
  columns = rw c.in_ok-layout.ensures.layout at c.into_columns.ensures;
  weights = c.keep_pieces-2.ensures (dtd_of c.args.grammar.now)
      (rw c.in_ok-layout.ensures.layout at c.complete_under-told.ensures.known);
}
