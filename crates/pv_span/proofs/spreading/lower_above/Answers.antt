use Rattle.std.proofs.Common.{arith, get_or, inl, inr, map, refl, ◌∙◌, ◌≡◌, ◌≤◌, ◌⊎◌}
use Rattle.std.proofs.lemmas.List.{length-map}
use Rattle.pv_model.specs.PlainForms.{plain_token}
use Rattle.pv_layout.specs.FormForms.{plain_all}
use Rattle.pv_span.specs.PlainForms.{plain_chart}
use Rattle.std.proofs.lemmas.Option.{slice_get-get_or}
use Rattle.pv_productive.specs.Tables.{size_at}
use Rattle.pv_span.specs.Waits.{Waits}
use Rattle.pv_span.proofs.WaitingColumns.{fallen_both, first_place, last_place, none_fallen}
use Rattle.pv_layout.proofs.MentionedColumns.{told_one}
use Rattle.pv_span.proofs.Spreads.{one_lowered}
use Rattle.pv_span.proofs.spreading.lower_above.Goals as goal

pub loop-number-init : goal.loop-number-init
loop-number-init c =
    let t = c.args.chart.now in
    let m = c.args.mentions.now in
    record {
      attained = c.requires.attained;
      same = (refl, refl, refl, refl);
      fallen = none_fallen c.args.waiting.now c.args.waiting.now (λ d x. x) refl t.row.items t.row.items refl;
      held = first_place (plain_all c.args.forms.now) (map plain_token c.args.word.now) t.from t.to c.args.column c.value_at-value.result c.above-above.result.now (plain_chart t) c.args.waiting.now
          (λ s d o e. told_one (plain_all c.args.forms.now) m s c.args.column c.above-above.result.now c.requires.told c.requires.some (rw (← e) at o)
          (let l = c.requires.column in simp length-map (omega arith)) c.above-above.ensures) c.requires.held;
    }

pub lower_next-requires-clause-attained : goal.lower_next-requires-clause-attained
lower_next-requires-clause-attained c = c.loop-number.invariant.attained

pub lower_next-requires-clause-long : goal.lower_next-requires-clause-long
lower_next-requires-clause-long c = c.loop-number.invariant.fallen.long ∙ c.requires.long

pub loop-number-preserved : goal.loop-number-preserved
loop-number-preserved c =
    let i = c.loop-number.invariant in
    let t = c.args.chart.now in
    let p = c.lower_next.ensures.same in
    let above = c.above-above.result.now in
    let v : c.value_at-value.result ≡ size_at t.row.items c.args.column = rw c.deref.ensures.value at c.value_at-value.ensures in
    let first : (c.value_at-value.result ≤ size_at c.loop-number.chart.row.items c.args.column) ⊎ Waits c.loop-number.waiting c.args.column =
    elim (i.fallen.each c.args.column) [ inl e ↦ inl (omega arith) | inr q ↦ inr q.1 ] in
    record {
      attained = c.lower_next.ensures.attained;
      same = (p.0 ∙ i.same.0, p.1 ∙ i.same.1, p.2 ∙ i.same.2, p.3 ∙ i.same.3);
      fallen = fallen_both c.args.waiting.now c.loop-number.waiting c.lower_next.new.waiting
          t.row.items c.loop-number.chart.row.items c.lower_next.new.chart.row.items i.fallen
          c.lower_next.ensures.fallen;
      held = one_lowered (plain_all c.args.forms.now) (map plain_token c.args.word.now) t.from t.to
          c.loop-number.chart c.lower_next.new.chart i.attained c.lower_next.ensures.attained
          i.same.0 i.same.1 p
          c.loop-number.waiting c.lower_next.new.waiting c.lower_next.ensures.fallen c.args.column c.value_at-value.result above c.loop-number.number (get_or above c.loop-number.number 0)
          (slice_get-get_or above c.loop-number.number 0 (omega arith)) first
          (rw (i.same.0, i.same.1) at c.lower_next.ensures.held) i.held;
    }

pub returns-in_err-lower_next-clause-long : goal.returns-in_err-lower_next-clause-long
returns-in_err-lower_next-clause-long c = c.lower_next.ensures.fallen.long ∙ c.loop-number.invariant.fallen.long

pub returns-clause-long : goal.returns-clause-long
returns-clause-long c = c.loop-number.invariant.fallen.long

pub returns-clause-held : goal.returns-clause-held
returns-clause-held c =
    let t = c.args.chart.now in
    last_place (plain_all c.args.forms.now) (map plain_token c.args.word.now) t.from t.to
    c.args.column c.value_at-value.result c.above-above.result.now
    (plain_chart c.loop-number.chart) c.loop-number.waiting c.loop-number.number (omega arith)
    c.loop-number.invariant.held
