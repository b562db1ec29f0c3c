use Rattle.pv_bounds.proofs.cuts.holds_by_later.Given as goal

abbrev pub invariant-loop-beyond : goal.invariant-loop-beyond
invariant-loop-beyond l = Unit {0}
