use Rattle.std.proofs.Common.{arith}
use Rattle.pv_productive.specs.Tables.{no_size}
use Rattle.pv_span.specs.Charts.{value_of}
use Rattle.pv_span.specs.PlainForms.{plain_chart}
use Rattle.pv_span.proofs.PassedColumns.{all_passed, member_more, none_passed}
use Rattle.pv_span.proofs.least.least_of_members.Goals as goal

pub loop-index-init : goal.loop-index-init
loop-index-init c = let t = c.args.chart.now in none_passed (value_of (plain_chart t)) c.args.members.now t.from t.to no_size (omega arith)

pub loop-index-preserved : goal.loop-index-preserved
loop-index-preserved c =
    let t = c.args.chart.now in
    member_more (value_of (plain_chart t)) c.args.members.now t.from t.to c.loop-index.index c.loop-index.least c.min-least.result c.loop-index.invariant
    (omega arith) (let m = c.min-least.ensures in let h = c.here.ensures in omega arith)

pub returns : goal.returns
returns c =
    let t = c.args.chart.now in
    all_passed (value_of (plain_chart t)) c.args.members.now t.from t.to c.loop-index.index c.loop-index.least _ c.loop-index.invariant (omega arith) (omega arith)
