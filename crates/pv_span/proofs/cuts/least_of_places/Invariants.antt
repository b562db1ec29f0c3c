use Rattle.std.proofs.Common.{suc}
use Rattle.pv_span.specs.Charts.{value_of}
use Rattle.pv_span.specs.Least.{IsLeastCut}
use Rattle.pv_span.specs.PlainForms.{plain_chart}
use Rattle.pv_span.proofs.cuts.least_of_places.Given as goal

abbrev pub invariant-loop-place : goal.invariant-loop-place
invariant-loop-place l = IsLeastCut (value_of (plain_chart l.chart)) l.one l.two l.chart.from l.chart.to (suc l.chart.from) l.place l.least
