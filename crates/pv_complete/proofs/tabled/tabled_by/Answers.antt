use Rattle.pv_productive.specs.PlainForms.{dtd_of}
use Rattle.pv_complete.proofs.tabled.tabled_by.Goals as goal

pub tabled_under-requires-clause-known : goal.tabled_under-requires-clause-known
tabled_under-requires-clause-known c =
    c.with_tables-known.ensures (dtd_of c.in_ok-layout.layout.grammar.now)

pub tabled_under-requires-clause-verdicts : goal.tabled_under-requires-clause-verdicts
tabled_under-requires-clause-verdicts c = rw c.in_ok-layout.ensures c.requires.verdicts

pub returns-clause-completed : goal.returns-clause-completed
returns-clause-completed c = rw c.in_ok-layout.ensures at c.tabled_under.ensures.completed

pub returns-clause-written : goal.returns-clause-written
returns-clause-written c = rw c.in_ok-layout.ensures at c.tabled_under.ensures.written

pub returns-clause-bounded : goal.returns-clause-bounded
returns-clause-bounded c = rw c.in_ok-layout.ensures at c.tabled_under.ensures.bounded

pub returns-clause-tables : goal.returns-clause-tables
returns-clause-tables c = rw c.in_ok-layout.ensures at c.tabled_under.ensures.tables

pub returns-clause-refused : goal.returns-clause-refused
returns-clause-refused c = rw c.in_ok-layout.ensures at c.tabled_under.ensures.refused
