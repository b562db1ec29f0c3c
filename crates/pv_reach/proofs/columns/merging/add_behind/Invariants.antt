use Rattle.pv_reach.specs.Merging.{AddsMerged}
use Rattle.pv_reach.proofs.columns.merging.add_behind.Given as goal

abbrev pub invariant-loop-i : goal.invariant-loop-i
invariant-loop-i l = AddsMerged l.rules l.merging l.initial.new.items l.new.items
