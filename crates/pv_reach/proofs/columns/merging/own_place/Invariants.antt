use Rattle.pv_reach.proofs.columns.merging.own_place.Given as goal

abbrev pub invariant-loop-place : goal.invariant-loop-place
invariant-loop-place l = Unit {0}
