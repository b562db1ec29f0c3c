use Rattle.std.proofs.Common.{arith}
use Rattle.pv_bounds.proofs.LeastCosts.{least_light}
use Rattle.pv_bounds.proofs.fronts.least_to.Goals as goal

pub loop-index-init : goal.loop-index-init
loop-index-init c = record {
  light = omega arith;
  rest = let l = least_light c.args.place c.args.reaches.now in omega arith;
}
