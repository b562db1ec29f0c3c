use Rattle.std.proofs.Common.{arith, map, ◌∙◌}
use Rattle.std.proofs.lemmas.List.{length-map}
use Rattle.pv_model.specs.PlainForms.{plain_token}
use Rattle.pv_layout.specs.FormForms.{plain_all}
use Rattle.pv_span.specs.PlainForms.{plain_chart}
use Rattle.pv_span.proofs.LoweredRows.{column_settling}
use Rattle.pv_span.proofs.lowering.lower_some.Goals as goal

pub overflow_cast-number : goal.overflow_cast-number
overflow_cast-number c = let s = c.args.chart.now.sized in let b = c.args.chart.now.done.narrow in
    let a = c.requires.attained.is_row in let n = simp length-map at a in let l =
    c.loop-number-test.true in omega arith

pub lower_column-is_less-requires-clause-attained : goal.lower_column-is_less-requires-clause-attained
lower_column-is_less-requires-clause-attained c = let i = c.loop-number.invariant in rw (i.same.0, i.same.1) i.settling.attained

pub loop-number-preserved : goal.loop-number-preserved
loop-number-preserved c =
    let i = c.loop-number.invariant in
    let t = c.args.chart.now in
    let p = c.lower_column-is_less.ensures.same in
    record {
      settling = column_settling (plain_all c.args.forms.now) (map plain_token c.args.word.now) t.from t.to c.args.first c.loop-number.number (plain_chart t) (plain_chart c.loop-number.chart)
          (plain_chart c.lower_column-is_less.new.chart) c.loop-number.changed c.lower_column-is_less.result i.settling (rw (i.same.0, i.same.1) at c.lower_column-is_less.ensures.settling);
      same = (p.0 ∙ i.same.0, p.1 ∙ i.same.1, p.2 ∙ i.same.2, p.3 ∙ i.same.3);
    }
