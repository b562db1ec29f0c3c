use Rattle.std.proofs.Common.{map}
use Rattle.pv_model.specs.PlainForms.{plain_token}
use Rattle.pv_span.specs.Charts.{value_of}
use Rattle.pv_layout.specs.FormForms.{plain_all}
use Rattle.pv_span.specs.PlainForms.{plain_chart}
use Rattle.pv_span.proofs.Flats.{spanned}
use Rattle.pv_span.proofs.LeastValues.{least_one}
use Rattle.pv_layout.proofs.ProgramColumns.{form_read}
use Rattle.pv_span.proofs.least.least_of.Goals as goal

pub returns-in-OneOf : goal.returns-in-OneOf
returns-in-OneOf c =
    let t = c.args.chart.now in
    least_one (plain_all c.args.forms.now) (map plain_token c.args.word.now) (value_of (plain_chart t)) c.args.number t.from t.to
    (spanned c.args.word.now t.tokens t.from t.to t.place c.requires.long) c.in-OneOf.members.items c.least_of_members.result
    (rw c.in-OneOf.is at (form_read c.args.forms.now c.args.number c.index-forms-number.result c.requires.number c.index-forms-number.is))
    (rw c.deref.ensures.value at c.least_of_members.ensures)
