use Rattle.pv_columns.proofs.leading.find_free.Given as goal

abbrev pub invariant-loop-column : goal.invariant-loop-column
invariant-loop-column l = Unit {0}
