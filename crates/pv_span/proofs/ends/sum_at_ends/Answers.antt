use Rattle.std.proofs.Common.{arith, map}
use Rattle.pv_model.specs.PlainForms.{plain_token}
use Rattle.pv_span.specs.Charts.{value_of}
use Rattle.pv_layout.specs.FormForms.{plain_all}
use Rattle.pv_span.specs.PlainForms.{plain_chart}
use Rattle.pv_span.proofs.WholeSpanSums.{sum_member, sum_none, sum_nothing}
use Rattle.pv_span.proofs.Flats.{spanned}
use Rattle.pv_layout.proofs.ProgramColumns.{form_read}
use Rattle.pv_span.proofs.ends.sum_at_ends.Goals as goal

pub returns-in-OneOf : goal.returns-in-OneOf
returns-in-OneOf c =
    let t = c.args.chart.now in
    sum_member (plain_all c.args.forms.now) (map plain_token c.args.word.now) (value_of (plain_chart t)) c.args.number t.from t.to
    (spanned c.args.word.now t.tokens t.from t.to t.place c.requires.long) c.in-OneOf.members.items c.least_of_members.result
    (rw c.in-OneOf.is at (form_read c.args.forms.now c.args.number c.index-forms-number.result c.requires.number c.index-forms-number.is))
    (rw c.deref.ensures.value at c.least_of_members.ensures)

pub returns-in-Star : goal.returns-in-Star
returns-in-Star c =
    let t = c.args.chart.now in
    c.sum_of_star.ensures (plain_all c.args.forms.now) (map plain_token c.args.word.now) c.in-Star.field-1 (spanned c.args.word.now t.tokens t.from t.to t.place c.requires.long).1
    (rw c.in-Star.is at (form_read c.args.forms.now c.args.number c.index-forms-number.result c.requires.number c.index-forms-number.is))

pub returns-in-Never : goal.returns-in-Never
returns-in-Never c =
    let t = c.args.chart.now in
    sum_none (plain_all c.args.forms.now) (map plain_token c.args.word.now) (value_of (plain_chart t)) c.args.number t.from t.to
    (spanned c.args.word.now t.tokens t.from t.to t.place c.requires.long) _
    (rw c.in-Never.is at (form_read c.args.forms.now c.args.number c.index-forms-number.result c.requires.number c.index-forms-number.is)) (omega arith)

pub returns-in-Nothing : goal.returns-in-Nothing
returns-in-Nothing c =
    let t = c.args.chart.now in
    sum_nothing (plain_all c.args.forms.now) (map plain_token c.args.word.now) (value_of (plain_chart t)) c.args.number t.from t.to
    (spanned c.args.word.now t.tokens t.from t.to t.place c.requires.long) _
    (rw c.in-Nothing.is at (form_read c.args.forms.now c.args.number c.index-forms-number.result c.requires.number c.index-forms-number.is)) (omega arith)
