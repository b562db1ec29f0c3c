use Rattle.pv_reach.specs.Cuts.{AreCuts}
use Rattle.pv_reach.proofs.tables.kept.cuts_of.Given as goal

abbrev pub invariant-loop-name : goal.invariant-loop-name
invariant-loop-name l = AreCuts l.plan.rules.items l.plan.width l.cuts
