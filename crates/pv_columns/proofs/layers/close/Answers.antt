use Rattle.std.proofs.Common.{refl}
use Rattle.pv_columns.specs.EdgeFlows.{flows_seed}
use Rattle.pv_columns.proofs.EdgeJoins.{flows_in}
use Rattle.pv_columns.proofs.layers.close.Goals as goal

pub loop-init : goal.loop-init
loop-init c = record {
  long = refl;
  attained = λ d k h. flows_seed d k h;
  grow = λ d k h. h;
}

pub returns-clause-exact : goal.returns-clause-exact
returns-clause-exact c = λ d k. (
  (λ h. c.raise.ensures.attained c.args.layer.now c.loop.invariant.attained d k h),
  (λ f. flows_in c.args.edges.now c.args.layer.now c.raise.new.layer (c.raise.ensures.closed c.loop-test.false)
      (λ x y z. c.raise.ensures.grow x y (c.loop.invariant.grow x y z)) d k f),
)
