use Rattle.std.proofs.Common.{ap, length, ◌∙◌}
use Rattle.pv_reach.proofs.graph.sweep.sweep_from.Goals as goal

pub loop-column-preserved : goal.loop-column-preserved
loop-column-preserved c = record {
  long = c.in_ok-go_on.ensures.long ∙ ap length c.come_to.ensures ∙ c.loop-column.invariant.long;
  led = c.in_ok-go_on.ensures.led;
}
