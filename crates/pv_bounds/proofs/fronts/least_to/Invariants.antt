use Rattle.std.specs.Prelude.{min}
use Rattle.std.proofs.Common.{drop, ◌≡◌, ◌≤◌}
use Rattle.pv_rules.specs.Derivations.{heaviest}
use Rattle.pv_bounds.specs.Fronts.{least_to}
use Rattle.pv_bounds.proofs.fronts.least_to.Given as goal

abbrev pub invariant-loop-index : goal.invariant-loop-index
invariant-loop-index l = record {
  light : l.least ≤ heaviest;
  rest : min l.least (least_to l.place (drop l.index l.reaches)) ≡ least_to l.place l.reaches;
}
