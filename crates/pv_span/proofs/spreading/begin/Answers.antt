use Rattle.std.proofs.Common.{arith, map, refl, ◌∙◌}
use Rattle.std.proofs.lemmas.List.{length-map}
use Rattle.pv_model.specs.PlainForms.{plain_token}
use Rattle.pv_layout.specs.FormForms.{plain_all}
use Rattle.pv_span.proofs.WaitingColumns.{fallen_both, fallen_wait, none_fallen}
use Rattle.pv_span.proofs.Spreads.{all_begun, one_begun}
use Rattle.pv_span.proofs.spreading.begin.Goals as goal

pub loop-number-init : goal.loop-number-init
loop-number-init c = record {
  attained = c.requires.attained;
  same = (refl, refl, refl, refl);
  fallen = none_fallen c.args.waiting.now c.args.waiting.now (λ d x. x) refl c.args.chart.now.row.items c.args.chart.now.row.items refl;
  held = λ s l. absurd (omega arith);
}

pub lower_first-requires-clause-attained : goal.lower_first-requires-clause-attained
lower_first-requires-clause-attained c = c.loop-number.invariant.attained

pub lower_first-requires-clause-long : goal.lower_first-requires-clause-long
lower_first-requires-clause-long c = c.loop-number.invariant.fallen.long ∙ c.requires.long

pub lower_first-requires-clause-wait : goal.lower_first-requires-clause-wait
lower_first-requires-clause-wait c = fallen_wait c.args.waiting.now c.loop-number.waiting c.args.chart.now.row.items c.loop-number.chart.row.items c.loop-number.invariant.fallen c.requires.blank

pub loop-number-preserved : goal.loop-number-preserved
loop-number-preserved c =
    let i = c.loop-number.invariant in
    let t = c.args.chart.now in
    let p = c.lower_first.ensures.same in
    record {
      attained = c.lower_first.ensures.attained;
      same = (p.0 ∙ i.same.0, p.1 ∙ i.same.1, p.2 ∙ i.same.2, p.3 ∙ i.same.3);
      fallen = fallen_both c.args.waiting.now c.loop-number.waiting c.lower_first.new.waiting
          t.row.items c.loop-number.chart.row.items c.lower_first.new.chart.row.items i.fallen
          c.lower_first.ensures.fallen;
      held = one_begun (plain_all c.args.forms.now) (map plain_token c.args.word.now) t.from t.to
          c.loop-number.chart c.lower_first.new.chart i.attained c.lower_first.ensures.attained
          i.same.0 i.same.1 p
          c.loop-number.waiting c.lower_first.new.waiting c.lower_first.ensures.fallen c.loop-number.number i.held (rw (i.same.0, i.same.1) at c.lower_first.ensures.held);
    }

pub returns-in_err-lower_first-clause-long : goal.returns-in_err-lower_first-clause-long
returns-in_err-lower_first-clause-long c = c.lower_first.ensures.fallen.long ∙ c.loop-number.invariant.fallen.long

pub returns-clause-long : goal.returns-clause-long
returns-clause-long c = c.loop-number.invariant.fallen.long

pub returns-clause-held : goal.returns-clause-held
returns-clause-held c =
    let t = c.args.chart.now in
    all_begun (plain_all c.args.forms.now) (map plain_token c.args.word.now) t.from t.to
    c.loop-number.chart c.loop-number.waiting c.loop-number.number (simp length-map
    (omega arith)) c.loop-number.invariant.held
