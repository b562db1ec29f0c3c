use Rattle.pv_productive.specs.PlainForms.{dtd_of}
use Rattle.pv_complete.proofs.writing.completion.complete_by.Goals as goal

pub complete_under-requires-clause-known : goal.complete_under-requires-clause-known
complete_under-requires-clause-known c =
    c.with_pieces-known.ensures (dtd_of c.in_ok-layout.layout.grammar.now)

pub complete_under-requires-clause-verdicts : goal.complete_under-requires-clause-verdicts
complete_under-requires-clause-verdicts c = rw c.in_ok-layout.ensures c.requires.verdicts

pub returns-clause-completed : goal.returns-clause-completed
returns-clause-completed c = rw c.in_ok-layout.ensures at c.complete_under.ensures.completed

pub returns-clause-written : goal.returns-clause-written
returns-clause-written c = rw c.in_ok-layout.ensures at c.complete_under.ensures.written

pub returns-clause-bounded : goal.returns-clause-bounded
returns-clause-bounded c = rw c.in_ok-layout.ensures at c.complete_under.ensures.bounded

pub returns-clause-refused : goal.returns-clause-refused
returns-clause-refused c = rw c.in_ok-layout.ensures at c.complete_under.ensures.refused
