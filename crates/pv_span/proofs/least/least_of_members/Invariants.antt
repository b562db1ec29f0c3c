use Rattle.pv_span.specs.Charts.{value_of}
use Rattle.pv_span.specs.PlainForms.{plain_chart}
use Rattle.pv_span.proofs.PassedColumns.{HavePassed}
use Rattle.pv_span.proofs.least.least_of_members.Given as goal

abbrev pub invariant-loop-index : goal.invariant-loop-index
invariant-loop-index l = HavePassed (value_of (plain_chart l.chart)) l.members l.chart.from l.chart.to l.index l.least
