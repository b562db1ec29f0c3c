use Rattle.std.proofs.Common.{map, sym, ◌∙◌}
use Rattle.pv_model.specs.PlainForms.{plain_token}
use Rattle.pv_span.specs.Charts.{value_of}
use Rattle.pv_layout.specs.FormForms.{plain_all}
use Rattle.pv_span.specs.PlainForms.{plain_chart}
use Rattle.pv_span.proofs.Flats.{spanned}
use Rattle.pv_layout.proofs.ProgramColumns.{form_read}
use Rattle.pv_span.proofs.WholeSpanSums.{sum_from_all, sum_of_member}
use Rattle.pv_span.proofs.spreading.sum_from.Goals as goal

pub returns-then-is_member_at : goal.returns-then-is_member_at
returns-then-is_member_at c =
    let t = c.args.chart.now in
    let m = c.is_member_at.ensures c.if-is_member_at.true in
    rw c.from.ensures (sum_of_member (plain_all c.args.forms.now) (map plain_token c.args.word.now)
    (value_of (plain_chart t)) c.args.number t.from t.to
    (spanned c.args.word.now t.tokens t.from t.to t.place c.requires.long) m.0
    c.args.source.now.column c.args.source.now.value
    (form_read c.args.forms.now c.args.number c.index-forms-number.result c.requires.number
    c.index-forms-number.is ∙ m.1) m.2 (sym c.here.ensures ∙ c.if-here-source.true))

pub returns : goal.returns
returns c =
    let t = c.args.chart.now in
    sum_from_all (plain_all c.args.forms.now) (map plain_token c.args.word.now)
    (value_of (plain_chart t)) c.args.number t.from t.to
    (spanned c.args.word.now t.tokens t.from t.to t.place c.requires.long)
    c.args.source.now.value c.sum_at_ends.result c.sum_at_ends.ensures
