use Rattle.std.proofs.Common.{refl}
use Rattle.pv_layout.specs.declared.sites.SiteColumns.TheVariants.{Own}
use Rattle.pv_span.proofs.WordWeights.{chart_weighs}
use Rattle.pv_span.proofs.fixed.weights.Goals as goal

pub returns-clause-weights : goal.returns-clause-weights
returns-clause-weights c =
    rw c.in_ok-layout.ensures at (chart_weighs c.in_ok-layout.layout c.args.word.now
    c.in_ok-chart.chart (Own c.in_ok-layout.layout.sites) refl (rw c.in_ok-layout.ensures
    (c.is_narrow.ensures.0 c.if-not-is_narrow.false))
    (rw c.deref.ensures.value at c.in_ok-chart.ensures))

pub chart_of-requires-clause-told : goal.chart_of-requires-clause-told
chart_of-requires-clause-told c = rw c.deref.ensures.value c.in_ok-layout.layout.told
