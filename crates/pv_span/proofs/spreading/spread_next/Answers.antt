use Rattle.std.proofs.Common.{inl, inr, map, ◌≡◌, ◌⊎◌}
use Rattle.pv_model.specs.PlainForms.{plain_token}
use Rattle.pv_layout.specs.FormForms.{plain_all}
use Rattle.pv_span.specs.PlainForms.{plain_chart}
use Rattle.pv_span.specs.Waits.{Waits}
use Rattle.pv_span.proofs.WaitingColumns.{held_map}
use Rattle.pv_span.proofs.spreading.spread_next.Goals as goal

pub returns-in_default-clause-held : goal.returns-in_default-clause-held
returns-in_default-clause-held c =
    let t = c.args.chart.now in
    held_map (plain_all c.args.forms.now) (map plain_token c.args.word.now) t.from t.to (Waits c.args.waiting.now) (Waits c.next.new.self) (plain_chart t)
    (λ d x. elim (c.next.ensures.rest d x) [ inl e ↦ absurd cc | inr q ↦ q ]) c.requires.held

pub lower_above-requires-clause-held : goal.lower_above-requires-clause-held
lower_above-requires-clause-held c =
    let t = c.args.chart.now in
    held_map (plain_all c.args.forms.now) (map plain_token c.args.word.now) t.from t.to (Waits c.args.waiting.now) (λ d. (c.in-Some.column ≡ d) ⊎ Waits c.next.new.self d) (plain_chart t)
    (λ d x. elim (c.next.ensures.rest d x) [ inl e ↦ inl cc | inr q ↦ inr q ]) c.requires.held
