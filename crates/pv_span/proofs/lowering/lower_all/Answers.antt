use Rattle.std.proofs.Common.{length, map}
use Rattle.pv_model.specs.PlainForms.{plain_token}
use Rattle.pv_layout.specs.FormForms.{plain_all}
use Rattle.pv_span.specs.PlainForms.{plain_chart}
use Rattle.pv_span.proofs.LoweredRows.{all_settling}
use Rattle.pv_span.proofs.lowering.lower_all.Goals as goal

pub lower_some-named-requires-clause-attained : goal.lower_some-named-requires-clause-attained
lower_some-named-requires-clause-attained c = let s = c.lower_some-others.ensures.same in rw (s.0, s.1) c.lower_some-others.ensures.settling.attained

pub returns-clause-settling : goal.returns-clause-settling
returns-clause-settling c =
    let t = c.args.chart.now in
    let s = c.lower_some-others.ensures.same in
    all_settling (plain_all c.args.forms.now) (map plain_token c.args.word.now) t.from t.to c.min-first.result (length c.args.forms.now) (plain_chart t) (plain_chart c.lower_some-others.new.chart)
    (plain_chart c.lower_some-named.new.chart) c.lower_some-others.result c.lower_some-named.result c.lower_some-others.ensures.settling (rw (s.0, s.1) at c.lower_some-named.ensures.settling)
